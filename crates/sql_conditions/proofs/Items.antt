-- Reading items with commas between them one after the other, as a loop does.
use Rattle.std.proofs.Common.{◌≡◌, ℕ, suc, ◌-◌, ◌+◌, ◌≤◌, ◌<◌, List, [], ◌∷◌, ◌++◌, Some, None, Ok, Err, refl, sym, ap, ◌∙◌, append_assoc, arith}
use Rattle.sql_grammar.specs.declared.token.Token.{Token}
use Rattle.sql_conditions.specs.declared.refusal.Refusal.{Refusal}
use Rattle.sql_conditions.specs.declared.refusal.Refusal.TheVariants as refusal
use Rattle.sql_conditions.specs.Parts.{Read, ◌>>=◌, Fails, after_comma, items_at}

-- what was read before, and what is still read
abbrev pub with_items : {A : Type 0} → List A → Read (List A) → Read (List A)
with_items front read = read >>= λ x. Ok (front ++ x.0, x.1)

regroup : {A : Type 0} (front : List A) (a : A) (read : Read (List A)) → with_items front (read >>= λ x. Ok (a ∷ x.0, x.1)) ≡ with_items (front ++ a ∷ []) read
regroup {A} front a (Ok x) = ap (λ (items : List A). Ok (items, x.1)) (simp append_assoc)
regroup front a (Err f) = refl

no_front : {A : Type 0} (read : Read (List A)) → with_items [] read ≡ read
no_front (Ok x) = refl
no_front (Err f) = refl

module _ {A : Type 0} (item : List Token → Read A) (front : List A) (count i : ℕ) (tokens : List Token) (total : Read (List A)) where
  pub starts : total ≡ items_at item count tokens → with_items [] (items_at item (count - 0) tokens) ≡ total
  starts e = let z : count - 0 ≡ count = omega arith in rw z (no_front (items_at item count tokens) ∙ sym e)

  pub goes_on : (a : A) (after more : List Token) → i < count → item tokens ≡ Ok (a, after) → after_comma after ≡ Some more → with_items front (items_at item (count - i) tokens) ≡ total
      → with_items (front ++ a ∷ []) (items_at item (count - (i + 1)) more) ≡ total
  unfolding items_at
  goes_on a after more lt h k so_far =
      let n : count - i ≡ suc (count - (i + 1)) = omega arith in
      let one : with_items front (items_at item (count - i) tokens) ≡ with_items (front ++ a ∷ []) (items_at item (count - (i + 1)) more) = rw (n, h, k) (regroup front a (items_at item (count - (i + 1)) more)) in
      sym one ∙ so_far

  pub stops : (a : A) (after : List Token) → i < count → item tokens ≡ Ok (a, after) → after_comma after ≡ None → with_items front (items_at item (count - i) tokens) ≡ total
      → total ≡ Ok (front ++ a ∷ [], after)
  unfolding items_at
  stops a after lt h k so_far =
      let n : count - i ≡ suc (count - (i + 1)) = omega arith in
      let one : with_items front (items_at item (count - i) tokens) ≡ Ok (front ++ a ∷ [], after) = rw (n, h, k) refl in
      sym so_far ∙ one

  pub fails : (e : Refusal) → i < count → Fails e (item tokens) → with_items front (items_at item (count - i) tokens) ≡ total → Fails e total
  unfolding items_at
  fails refusal.NoMemory lt h so_far = tt
  fails (refusal.Unexpected left) lt h so_far =
      let n : count - i ≡ suc (count - (i + 1)) = omega arith in
      let one : with_items front (items_at item (count - i) tokens) ≡ Err h.0 = rw (n, h.1) refl in
      (h.0, sym so_far ∙ one, h.2)

  pub runs_out : count ≤ i → with_items front (items_at item (count - i) tokens) ≡ total → total ≡ Err tokens
  unfolding items_at
  runs_out le so_far =
      let n : count - i ≡ 0 = omega arith in
      let one : with_items front (items_at item (count - i) tokens) ≡ Err tokens = rw n refl in
      sym so_far ∙ one
