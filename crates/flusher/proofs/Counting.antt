-- How many numbers pass two tests.
use Rattle.std.proofs.Common.{◌≡◌, ⊎_elim, ℕ, zero, suc, ◌<◌, ◌≤◌, Bool, true, false, refl, sym, ◌∙◌, ap, subst, arith}
use Rattle.std.specs.Prelude.{if◌then◌else◌}
use Rattle.std.proofs.lemmas.Bool.{cases_lt}
use Rattle.flusher.specs.Cleaning.{count_below}

abbrev one_if : Bool → ℕ
one_if b = if b then 1 else 0

at_most : (a b : Bool) → (b ≡ true → a ≡ true) → one_if b ≤ one_if a
at_most a true up = let is : a ≡ true = up refl in subst (λ (x : Bool). 1 ≤ one_if x) (sym is) (omega arith)
at_most a false up = omega arith

pub count_at_most : (p q : ℕ → Bool) (n : ℕ) → ((i : ℕ) → q i ≡ true → p i ≡ true) → count_below q n ≤ count_below p n
count_at_most p q zero up = omega arith
count_at_most p q (suc n) up =
    let here = at_most (p n) (q n) (up n) in
    let rest = count_at_most p q n up in
    omega (arith, here, rest)

pub count_less : (p q : ℕ → Bool) (n k : ℕ) → k < n → p k ≡ true → q k ≡ false → ((i : ℕ) → q i ≡ true → p i ≡ true)
    → count_below q n < count_below p n
count_less p q zero k within has has_not up = absurd (omega (arith, within))
count_less p q (suc n) k within has has_not up = ⊎_elim
    (λ (before : k < n).
    let here = at_most (p n) (q n) (up n) in
    let rest = count_less p q n k before has has_not up in
    omega (arith, here, rest))
    (λ (from : n ≤ k).
    let last : k ≡ n = omega (arith, from, within) in
    let one : one_if (p n) ≡ 1 = ap (λ (m : ℕ). one_if (p m)) (sym last) ∙ ap one_if has in
    let none : one_if (q n) ≡ 0 = ap (λ (m : ℕ). one_if (q m)) (sym last) ∙ ap one_if has_not in
    let rest = count_at_most p q n up in
    omega (arith, one, none, rest))
    (cases_lt k n)

pub count_same : (p q : ℕ → Bool) (n : ℕ) → ((i : ℕ) → q i ≡ p i) → count_below q n ≡ count_below p n
count_same p q zero same = refl
count_same p q (suc n) same = let here = ap one_if (same n) in let rest = count_same p q n same in omega (arith, here, rest)
