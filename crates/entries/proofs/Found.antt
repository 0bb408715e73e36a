-- What is found among pairs in order after an edit, and what the first pair that passes is.
use Rattle.std.proofs.Common.{◌≡◌, ◌≢◌, ℕ, Bool, true, false, cond, List, [], ◌∷◌, Option, None, Some, refl, sym, ◌∙◌, ap}
use Rattle.std.specs.Prelude.{MatchOption, is_some, find}
use Rattle.std.proofs.lemmas.Bool.{false≢true}
use Rattle.std.specs.declared.cmp.Ordering.{Ordering}
use Rattle.std.specs.declared.cmp.Ordering.TheVariants.{Less, Equal, Greater}
use Rattle.std.specs.Ordering.{match_ordering, is_eq, is_le}
use Rattle.std.specs.List.{AllByRecursion}
use Rattle.entries.specs.Pairs.{Pair, key_cmp, AreRising, value_of, with_pair, without_key, IsFirstOf, NonePasses}
use Rattle.entries.proofs.Order.{same_key, key_itself, higher_from}
use Rattle.entries.proofs.Edits.{none_above, alike}

-- keys that differ don't compare alike
differ : (other key : List ℕ) → other ≢ key → is_eq (key_cmp other key) ≡ false
differ other key ne = go (key_cmp other key) refl where
  go : (o : Ordering) → o ≡ key_cmp other key → is_eq o ≡ false
  go Less is = refl
  go Equal is = absurd (ne (same_key other key (sym is)))
  go Greater is = refl

same_by_test : (other key : List ℕ) → is_eq (key_cmp other key) ≡ true → key_cmp other key ≡ Equal
same_by_test other key is = go (key_cmp other key) refl where
  go : (o : Ordering) → o ≡ key_cmp other key → key_cmp other key ≡ Equal
  go Less same = absurd (false≢true (ap is_eq same ∙ is))
  go Equal same = sym same
  go Greater same = absurd (false≢true (ap is_eq same ∙ is))

pub value_put : (key value : List ℕ) (pairs : List Pair) → value_of key (with_pair key value pairs) ≡ Some value
value_put key value [] = rw (key_itself key)
value_put key value (pair ∷ pairs) = go (key_cmp key pair.0) refl (value_put key value pairs) where
  go : (o : Ordering) → o ≡ key_cmp key pair.0 → value_of key (with_pair key value pairs) ≡ Some value → value_of key (match_ordering o ((key, value) ∷ pair ∷ pairs) ((pair.0, value) ∷ pairs) (pair ∷ with_pair key value pairs)) ≡ Some value
  go Less is rest = rw (key_itself key)
  go Equal is rest = rw (sym is)
  go Greater is rest = rw (sym is) rest

pub others_stay : (key value other : List ℕ) (pairs : List Pair) → other ≢ key → value_of other (with_pair key value pairs) ≡ value_of other pairs
others_stay key value other [] ne = rw (differ other key ne)
others_stay key value other (pair ∷ pairs) ne = go (key_cmp key pair.0) refl (others_stay key value other pairs ne) where
  go : (o : Ordering) → o ≡ key_cmp key pair.0 → value_of other (with_pair key value pairs) ≡ value_of other pairs → value_of other (match_ordering o ((key, value) ∷ pair ∷ pairs) ((pair.0, value) ∷ pairs) (pair ∷ with_pair key value pairs)) ≡ value_of other (pair ∷ pairs)
  go Less is rest = rw (differ other key ne)
  go Equal is rest = rw (differ other pair.0 (λ same. ne (same ∙ sym (same_key key pair.0 (sym is)))))
  go Greater is rest = ap (λ (found : Option (List ℕ)). cond (is_eq (key_cmp other pair.0)) (Some pair.1) found) rest

pub value_gone : (key : List ℕ) (pairs : List Pair) → AreRising pairs → value_of key (without_key key pairs) ≡ None
value_gone key [] rising = refl
value_gone key (pair ∷ pairs) rising = go (is_eq (key_cmp key pair.0)) refl (value_gone key pairs rising.1) where
  go : (b : Bool) → b ≡ is_eq (key_cmp key pair.0) → value_of key (without_key key pairs) ≡ None → value_of key (cond b pairs (pair ∷ without_key key pairs)) ≡ None
  go true is rest = none_above key pairs (alike key pair.0 pairs (same_by_test key pair.0 (sym is)) rising.0)
  go false is rest = rw (sym is) rest

pub others_stay_without : (key other : List ℕ) (pairs : List Pair) → other ≢ key → value_of other (without_key key pairs) ≡ value_of other pairs
others_stay_without key other [] ne = refl
others_stay_without key other (pair ∷ pairs) ne = go (is_eq (key_cmp key pair.0)) refl (others_stay_without key other pairs ne) where
  go : (b : Bool) → b ≡ is_eq (key_cmp key pair.0) → value_of other (without_key key pairs) ≡ value_of other pairs → value_of other (cond b pairs (pair ∷ without_key key pairs)) ≡ value_of other (pair ∷ pairs)
  go true is rest = rw (differ other pair.0 (λ same. ne (same ∙ sym (same_key key pair.0 (same_by_test key pair.0 (sym is))))))
  go false is rest = ap (λ (found : Option (List ℕ)). cond (is_eq (key_cmp other pair.0)) (Some pair.1) found) rest

-- a key that is there is above what is below all
above_from_there : (key other : List ℕ) (pairs : List Pair) → AllByRecursion (λ (later : Pair). key_cmp key later.0 ≡ Less) pairs → is_some (value_of other pairs) ≡ true → key_cmp key other ≡ Less
above_from_there key other [] all there = absurd (false≢true there)
above_from_there key other (pair ∷ pairs) all there = go (is_eq (key_cmp other pair.0)) refl (above_from_there key other pairs all.1) there where
  go : (b : Bool) → b ≡ is_eq (key_cmp other pair.0) → (is_some (value_of other pairs) ≡ true → key_cmp key other ≡ Less) → is_some (cond b (Some pair.1) (value_of other pairs)) ≡ true → key_cmp key other ≡ Less
  go true is rest there = ap (key_cmp key) (same_key other pair.0 (same_by_test other pair.0 (sym is))) ∙ all.0
  go false is rest there = rest there

module _ (test : List ℕ → Bool) where
  abbrev FirstIs : List Pair → Option Pair → Type 0
  FirstIs pairs found = MatchOption found (NonePasses test pairs) (IsFirstOf test pairs)

  -- the first pair passes
  first_here : (pair : Pair) (pairs : List Pair) → AllByRecursion (λ (later : Pair). key_cmp pair.0 later.0 ≡ Less) pairs → test pair.0 ≡ true → IsFirstOf test (pair ∷ pairs) pair
  first_here pair pairs all passes = record { there = rw (key_itself pair.0); passes = passes; least = λ other there also. go other (is_eq (key_cmp other pair.0)) refl there } where
    go : (other : List ℕ) (b : Bool) → b ≡ is_eq (key_cmp other pair.0) → is_some (cond b (Some pair.1) (value_of other pairs)) ≡ true → is_le (key_cmp pair.0 other) ≡ true
    go other true is there = ap (λ (k : List ℕ). is_le (key_cmp pair.0 k)) (same_key other pair.0 (same_by_test other pair.0 (sym is))) ∙ ap is_le (key_itself pair.0)
    go other false is there = ap is_le (above_from_there pair.0 other pairs all there)

  -- a key that is there and passes is behind a pair that doesn't pass
  behind : (pair : Pair) (pairs : List Pair) (other : List ℕ) → test pair.0 ≡ false → is_some (value_of other (pair ∷ pairs)) ≡ true → test other ≡ true → is_some (value_of other pairs) ≡ true
  behind pair pairs other fails there also = go (is_eq (key_cmp other pair.0)) refl there where
    go : (b : Bool) → b ≡ is_eq (key_cmp other pair.0) → is_some (cond b (Some pair.1) (value_of other pairs)) ≡ true → is_some (value_of other pairs) ≡ true
    go true is there = absurd (false≢true (sym fails ∙ (ap test (sym (same_key other pair.0 (same_by_test other pair.0 (sym is)))) ∙ also)))
    go false is there = there

  false_unless : (b : Bool) → (b ≡ true → ⊥) → b ≡ false
  false_unless true no_way = absurd (no_way refl)
  false_unless false no_way = refl

  -- the first pair doesn't pass
  first_later : (pair : Pair) (pairs : List Pair) → AllByRecursion (λ (later : Pair). key_cmp pair.0 later.0 ≡ Less) pairs → test pair.0 ≡ false → (found : Option Pair) → FirstIs pairs found → FirstIs (pair ∷ pairs) found
  first_later pair pairs all fails None rest = λ other there. false_unless (test other) (λ also. false≢true (sym (rest other (behind pair pairs other fails there also)) ∙ also))
  first_later pair pairs all fails (Some first) rest = record {
    there = rw (higher_from pair.0 first.0 (above_from_there pair.0 first.0 pairs all (ap is_some rest.there))) rest.there;
    passes = rest.passes;
    least = λ other there also. rest.least other (behind pair pairs other fails there also) also;
  }

  pub first_is : (pairs : List Pair) → AreRising pairs → FirstIs pairs (find (λ pair. test pair.0) pairs)
  first_is [] rising = λ other there. absurd (false≢true there)
  first_is (pair ∷ pairs) rising = go (test pair.0) refl (first_is pairs rising.1) where
    go : (b : Bool) → b ≡ test pair.0 → FirstIs pairs (find (λ p. test p.0) pairs) → FirstIs (pair ∷ pairs) (cond b (Some pair) (find (λ p. test p.0) pairs))
    go true is rest = first_here pair pairs rising.0 (sym is)
    go false is rest = first_later pair pairs rising.0 (sym is) (find (λ p. test p.0) pairs) rest
