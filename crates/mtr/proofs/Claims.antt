-- How many pages a mini-transaction deals with: pages that are counted beforehand take no more place.
use Rattle.std.proofs.Common.{◌≡◌, ◌≢◌, ℕ, ◌+◌, ◌≤◌, ◌==◌, ◌||◌, inl, inr, List, [], ◌∷◌, ◌++◌, length, Bool, true, false, refl, sym, ap, ◌∙◌, subst, arith, length-append, eq-eqb}
use Rattle.std.specs.Prelude.{if◌then◌else◌}
use Rattle.std.proofs.lemmas.Bool.{cases_eq}
use Rattle.std.proofs.lemmas.Bool.Decides.{nat_tests}
use Rattle.std.proofs.lemmas.List.Folds.{list_any-append}
use Rattle.mtr.specs.Seen.{is_in, visit, visit_all, claim, AreAmong, AreDistinct}

is_in-added : (q p : ℕ) (v : List ℕ) → is_in q (v ++ p ∷ []) ≡ (is_in q v || ((p == q) || false))
is_in-added q p v = list_any-append (λ (x : ℕ). x == q) v (p ∷ [])

pub visited_stays : (q p : ℕ) (v : List ℕ) → is_in q v ≡ true → is_in q (visit p v) ≡ true
visited_stays q p v is = elim (is_in p v) as (λ b. is_in q (if b then v else v ++ p ∷ []) ≡ true) [ true ↦ is | false ↦ is_in-added q p v ∙ ap (λ (b : Bool). b || ((p == q) || false)) is ]

or_true : (b : Bool) → (b || true) ≡ true
or_true true = refl
or_true false = refl

or_false : (b : Bool) → (b || false) ≡ b
or_false true = refl
or_false false = refl

now : (p : ℕ) (v : List ℕ) (b : Bool) → is_in p v ≡ b → is_in p (if b then v else v ++ p ∷ []) ≡ true
now p v true is = is
now p v false is = is_in-added p p v ∙ ap (λ (b : Bool). is_in p v || (b || false)) (eq-eqb p p refl) ∙ or_true (is_in p v)

pub visited_now : (p : ℕ) (v : List ℕ) → is_in p (visit p v) ≡ true
visited_now p v = now p v (is_in p v) refl

other : (q p : ℕ) (v : List ℕ) (b : Bool) → p == q ≡ false → is_in q (if b then v else v ++ p ∷ []) ≡ is_in q v
other q p v true ne = refl
other q p v false ne = is_in-added q p v ∙ ap (λ (b : Bool). is_in q v || (b || false)) ne ∙ or_false (is_in q v)

ne_false : (p q : ℕ) → p ≢ q → p == q ≡ false
ne_false p q ne = grind (arith, nat_tests)

pub visited_other : (q p : ℕ) (v : List ℕ) → p ≢ q → is_in q (visit p v) ≡ is_in q v
visited_other q p v ne = other q p v (is_in p v) (ne_false p q ne)

-- ---- counted beforehand

-- 1 for a page that wasn't dealt with
abbrev pub one_if : Bool → ℕ
one_if known = if known then 0 else 1

abbrev pub more : ℕ → List ℕ → ℕ
more p v = one_if (is_in p v)

longer : (p : ℕ) (v : List ℕ) (b : Bool) → length (if b then v else v ++ p ∷ []) ≡ one_if b + length v
longer p v true = omega arith
longer p v false = omega (arith, length-append v (p ∷ []))

not_first : (p q : ℕ) (pages : List ℕ) → is_in p (q ∷ pages) ≡ false → (q == p ≡ false) × (is_in p pages ≡ false)
not_first p q pages out = elim (q == p) as (λ b. (b || is_in p pages) ≡ false → (b ≡ false) × (is_in p pages ≡ false)) [ true ↦ λ h. absurd (cc) | false ↦ λ h. (refl, h) ] out

eq_false : (p q : ℕ) → p == q ≡ false → p ≢ q
eq_false p q ne = grind (arith, nat_tests)

-- a page that isn't counted takes a place
claim_apart : (pages : List ℕ) (p : ℕ) (v : List ℕ) → is_in p pages ≡ false → claim pages (visit p v) ≡ more p v + claim pages v
claim_apart [] p v out = longer p v (is_in p v)
claim_apart (q ∷ pages) p v out =
    let apart = not_first p q pages out in
    let here : is_in q (visit p v) ≡ is_in q v = visited_other q p v (λ e. eq_false q p apart.0 (sym e)) in
    let rest = claim_apart pages p v apart.1 in
    let first : more q (visit p v) ≡ more q v = ap one_if here in
    omega (arith, first, rest)

-- one that is counted takes none
pub claim_visit : (pages : List ℕ) (p : ℕ) (v : List ℕ) → AreDistinct pages → is_in p pages ≡ true → claim pages (visit p v) ≡ claim pages v
claim_visit [] p v distinct known = absurd (cc)
claim_visit (q ∷ pages) p v distinct known = elim (cases_eq q p) [
  | inl same ↦
      let out : is_in p pages ≡ false = subst (λ (n : ℕ). is_in n pages ≡ false) same distinct.0 in
      let rest = claim_apart pages p v out in
      let first : more q (visit p v) ≡ 0 = ap one_if (subst (λ (n : ℕ). is_in n (visit p v) ≡ true) (sym same) (visited_now p v)) in
      let before : more q v ≡ more p v = ap (λ (n : ℕ). more n v) same in
      omega (arith, first, rest, before)
  | inr apart ↦
      let here : is_in q (visit p v) ≡ is_in q v = visited_other q p v (λ e. apart (sym e)) in
      let first : more q (visit p v) ≡ more q v = ap one_if here in
      let known_still : is_in p pages ≡ true = subst (λ (b : Bool). (b || is_in p pages) ≡ true) (ne_false q p apart) known in
      let rest = claim_visit pages p v distinct.1 known_still in
      omega (arith, first, rest)
]

pub claim_all : (pages asked : List ℕ) (v : List ℕ) → AreDistinct pages → AreAmong asked pages → claim pages (visit_all asked v) ≡ claim pages v
claim_all pages [] v distinct among = refl
claim_all pages (p ∷ asked) v distinct among = claim_all pages asked (visit p v) distinct among.1 ∙ claim_visit pages p v distinct among.0

-- a claim counts at least what was dealt with
pub claim_least : (pages v : List ℕ) → length v ≤ claim pages v
claim_least [] v = omega arith
claim_least (q ∷ pages) v = omega (arith, claim_least pages v)
