-- Where the first pair at or above a key says whether the key has one.
use Rattle.std.proofs.Common.{◌≡◌, ◌≢◌, ℕ, Bool, true, false, cond, List, [], ◌∷◌, Option, Some, None, nat_eq, sym, ◌∙◌, ap, subst, refl}
use Rattle.std.specs.Prelude.{MatchOption, is_some}
use Rattle.std.proofs.lemmas.Bool.{false≢true}
use Rattle.std.specs.declared.cmp.Ordering.{Ordering}
use Rattle.std.specs.declared.cmp.Ordering.TheVariants.{Less, Equal, Greater}
use Rattle.std.specs.Ordering.{is_le}
use Rattle.std.specs.Cmp.Lexicographic.{pointwise, bytes_decides}
use Rattle.std.specs.List.{AllByRecursion}
use Rattle.entries.specs.Pairs.{Pair, key_cmp, AreRising, IsFirstOf, NonePasses, value_of, first_from}
use Rattle.entries.proofs.Order.{same_key, key_itself, higher_from}
use Rattle.entries.proofs.Found.{first_is}

some_same : (one other : Pair) → Some one ≡ Some other → one ≡ other
some_same one other same = cc

module _ (key : List ℕ) (pairs : List Pair) (rising : AreRising pairs) where
  abbrev test : List ℕ → Bool
  test other = is_le (key_cmp key other)

  says : MatchOption (first_from key pairs) (NonePasses test pairs) (IsFirstOf test pairs)
  says = first_is test pairs rising

  passes_itself : test key ≡ true
  passes_itself = ap is_le (key_itself key)

  first_one : (pair : Pair) → first_from key pairs ≡ Some pair → IsFirstOf test pairs pair
  first_one pair is = subst (λ found. MatchOption found (NonePasses test pairs) (IsFirstOf test pairs)) is says

  no_one : first_from key pairs ≡ None → NonePasses test pairs
  no_one is = subst (λ found. MatchOption found (NonePasses test pairs) (IsFirstOf test pairs)) is says

  pub found_there : (value : List ℕ) → first_from key pairs ≡ Some (key, value) → value_of key pairs ≡ Some value
  found_there value is = (first_one (key, value) is).there

  -- two keys of which neither is above the other are one
  same_by_order : (other : List ℕ) → test other ≡ true → is_le (key_cmp other key) ≡ true → key ≡ other
  same_by_order other passes back = go (key_cmp key other) refl where
    go : (order : Ordering) → key_cmp key other ≡ order → key ≡ other
    go Less is = absurd (false≢true (ap is_le (sym (higher_from key other is)) ∙ back))
    go Equal is = same_key key other is
    go Greater is = absurd (false≢true (ap is_le (sym is) ∙ passes))

  pub other_there : (pair : Pair) → first_from key pairs ≡ Some pair → key ≢ pair.0 → value_of key pairs ≡ None
  other_there pair is other = go (value_of key pairs) refl where
    go : (value : Option (List ℕ)) → value_of key pairs ≡ value → value_of key pairs ≡ None
    go None none = none
    go (Some value) some =
        let first = first_one pair is in
        absurd (other (same_by_order pair.0 first.passes (first.least key (ap is_some some) passes_itself)))

  pub none_there : first_from key pairs ≡ None → value_of key pairs ≡ None
  none_there is = go (value_of key pairs) refl where
    go : (value : Option (List ℕ)) → value_of key pairs ≡ value → value_of key pairs ≡ None
    go None none = none
    go (Some value) some = absurd (false≢true (sym (no_one is key (ap is_some some)) ∙ passes_itself))

  pub row_value : (row value : List ℕ) → pointwise nat_eq row key ≡ true → first_from key pairs ≡ Some (row, value) → value_of key pairs ≡ Some value
  row_value row value equal is =
      found_there value (subst (λ (k : List ℕ). first_from key pairs ≡ Some (k, value)) ((bytes_decides row key).0 equal) is)

  -- whether the row that was found is the key's
  pub row_found : (same : Bool) (row value : List ℕ) → same ≡ pointwise nat_eq row key → first_from key pairs ≡ Some (row, value)
      → same ≡ is_some (value_of key pairs)
  row_found true row value equal is = sym (ap is_some (row_value row value (sym equal) is))
  row_found false row value equal is =
      sym (ap is_some (other_there (row, value) is (λ one. absurd (false≢true (equal ∙ (bytes_decides row key).1 (sym one))))))

-- what all pairs have, the one that is found has
pub of_found : (P : Pair → Type 0) (key : List ℕ) (pairs : List Pair) (pair : Pair) → AllByRecursion P pairs → first_from key pairs ≡ Some pair → P pair
of_found P key [] pair all is = absurd (cc)
of_found P key (one ∷ pairs) pair all is = go (is_le (key_cmp key one.0)) refl (of_found P key pairs pair all.1) where
  go : (passes : Bool) → is_le (key_cmp key one.0) ≡ passes → (first_from key pairs ≡ Some pair → P pair) → P pair
  go true here rest =
      let same : Some one ≡ Some pair = sym (ap (λ (b : Bool). cond b (Some one) (first_from key pairs)) here) ∙ is in
      subst P (some_same one pair same) all.0
  go false here rest = rest (sym (ap (λ (b : Bool). cond b (Some one) (first_from key pairs)) here) ∙ is)
