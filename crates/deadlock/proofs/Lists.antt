-- Lists of transactions: whether one is among them, and the list without it.
use Rattle.std.specs.Prelude.{◌≡◌, ◌≢◌, ℕ, ◌<◌, ◌≤◌, ◌==◌, ◌||◌, Bool, true, false, List, [], ◌∷◌, length, filter}
use Rattle.std.specs.List.{items_where_true}
use Rattle.std.specs.List.Retain.{IsFiltered, ReturnsInTurn}
use Rattle.std.proofs.Common.{arith, sym, ◌∙◌, ap, refl, inl, inr, subst}
use Rattle.std.proofs.lemmas.Bool.{cases_Bool, eqb-true, ne_eqb, or_parts, or_from, false≢true}
use Rattle.deadlock.specs.Steps.{is_among, without}

-- the others are among it as before
pub is_among-without : (v h : ℕ) → v ≢ h → (xs : List ℕ) → is_among v (without h xs) ≡ is_among v xs
is_among-without v h ne [] = refl
is_among-without v h ne (x ∷ xs) =
    elim (cases_Bool (x == h)) [
      | inl e ↦
          let other : (x == v) ≡ false = ne_eqb x v (λ same. ne (sym same ∙ eqb-true x h e)) in
          rw (e, other) (is_among-without v h ne xs)
      | inr e ↦ rw e (ap (λ b. (x == v) || b) (is_among-without v h ne xs))
    ]

-- it isn't among it itself
pub is_among-without_same : (h : ℕ) (xs : List ℕ) → is_among h (without h xs) ≡ false
is_among-without_same h [] = refl
is_among-without_same h (x ∷ xs) = elim (cases_Bool (x == h)) [ inl e ↦ rw e (is_among-without_same h xs) | inr e ↦ rw (e, e) (is_among-without_same h xs) ]

-- what is not among the list is not among it without another
pub is_among-without_false : (v h : ℕ) (xs : List ℕ) → is_among v xs ≡ false → is_among v (without h xs) ≡ false
is_among-without_false v h [] _ = refl
is_among-without_false v h (x ∷ xs) absent =
    elim (cases_Bool (x == h)) [
      | inl e ↦ rw e (is_among-without_false v h xs (or_parts _ _ absent).1)
      | inr e ↦ rw e (or_from _ _ (or_parts _ _ absent).0 (is_among-without_false v h xs (or_parts _ _ absent).1))
    ]

pub length-without_upto : (h : ℕ) (xs : List ℕ) → length (without h xs) ≤ length xs
length-without_upto h [] = omega arith
length-without_upto h (x ∷ xs) =
    elim (cases_Bool (x == h)) [ inl e ↦ rw e (omega (arith, length-without_upto h xs)) | inr e ↦ rw e (omega (arith, length-without_upto h xs)) ]

-- it becomes shorter where the transaction was among it
pub length-without : (h : ℕ) (xs : List ℕ) → is_among h xs ≡ true → length (without h xs) < length xs
length-without h [] there = absurd (false≢true there)
length-without h (x ∷ xs) there =
    elim (cases_Bool (x == h)) [
      | inl e ↦ rw e (omega (arith, length-without_upto h xs))
      | inr e ↦ rw e (omega (arith, length-without h xs (rw e at there)))
    ]

pub empty_from_length : (xs : List ℕ) → length xs ≡ 0 → xs ≡ []
empty_from_length [] _ = refl
empty_from_length (x ∷ xs) none = absurd (omega (arith, none))

-- what `retain` keeps, where the closure computes a test and stays as it is
kept_in_turn : {F : Type 0} (R : F → ℕ → Bool → F → Type 0) (test : ℕ → Bool) (f : F) → ((x : ℕ) (b : Bool) (g : F) → R f x b g → (b ≡ test x) × (g ≡ f)) → (bs : List Bool) (xs : List ℕ) (g : F) → length bs ≡ length xs → ReturnsInTurn R f bs xs g → items_where_true bs xs ≡ filter test xs
kept_in_turn R test f says [] [] g same turns = refl
kept_in_turn R test f says [] (x ∷ xs) g same turns = absurd (omega (arith, same))
kept_in_turn R test f says (b ∷ bs) [] g same turns = absurd turns
kept_in_turn R test f says (true ∷ bs) (x ∷ xs) g same turns =
    let said : (true ≡ test x) × (turns.0 ≡ f) = says x true turns.0 turns.1 in
    let rest : items_where_true bs xs ≡ filter test xs = kept_in_turn R test f says bs xs g (omega (arith, same)) (subst (λ h. ReturnsInTurn R h bs xs g) said.1 turns.2) in
    rw (sym said.0) (ap (λ (ys : List ℕ). x ∷ ys) rest)
kept_in_turn R test f says (false ∷ bs) (x ∷ xs) g same turns =
    let said : (false ≡ test x) × (turns.0 ≡ f) = says x false turns.0 turns.1 in
    let rest : items_where_true bs xs ≡ filter test xs = kept_in_turn R test f says bs xs g (omega (arith, same)) (subst (λ h. ReturnsInTurn R h bs xs g) said.1 turns.2) in
    rw (sym said.0) rest

pub filter_from_retain : {F : Type 0} (R : F → ℕ → Bool → F → Type 0) (test : ℕ → Bool) (f : F) → ((x : ℕ) (b : Bool) (g : F) → R f x b g → (b ≡ test x) × (g ≡ f)) → (xs ys : List ℕ) → IsFiltered R f xs ys → ys ≡ filter test xs
filter_from_retain R test f says xs ys kept = kept.4 ∙ kept_in_turn R test f says kept.0 xs kept.1 kept.2 kept.3
