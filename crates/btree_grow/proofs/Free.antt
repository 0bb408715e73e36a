-- How many pages are free, before and after one is taken.
use Rattle.std.proofs.Common.{◌≡◌, ◌≢◌, inl, inr, ℕ, zero, suc, ◌+◌, ◌-◌, ◌<◌, List, refl, sym, ◌∙◌, ap, arith}
use Rattle.std.proofs.lemmas.Bool.{cases_eq}
use Rattle.space_map.specs.Map.{mark_of, free_among}

left_none : (k : ℕ) → (k ≡ 0 → ⊥) → 1 - k ≡ 0
left_none zero some = absurd (some refl)
left_none (suc k) some = omega arith

pub none_free : (pages : ℕ → List ℕ) (n : ℕ) → ((page : ℕ) → page < n → mark_of pages page ≡ 0 → ⊥) → free_among pages 0 n ≡ 0
none_free pages zero all = refl
none_free pages (suc n) all =
    let before : free_among pages 0 n ≡ 0 = none_free pages n (λ page below. all page (omega (arith, below))) in
    let last : 1 - mark_of pages (0 + n) ≡ 0 = left_none (mark_of pages (0 + n)) (all (0 + n) (omega arith)) in
    omega (arith, before, last)

same_free : (pages others : ℕ → List ℕ) (n : ℕ) → ((page : ℕ) → page < n → mark_of others page ≡ mark_of pages page)
    → free_among others 0 n ≡ free_among pages 0 n
same_free pages others zero same = refl
same_free pages others (suc n) same =
    let before = same_free pages others n (λ page below. same page (omega (arith, below))) in
    let last : mark_of others (0 + n) ≡ mark_of pages (0 + n) = same (0 + n) (omega arith) in
    (λ j. before j + (1 - last j))

pub one_taken : (pages others : ℕ → List ℕ) (q n : ℕ) → q < n → mark_of pages q ≡ 0 → mark_of others q ≡ 1
    → ((page : ℕ) → page < n → page ≢ q → mark_of others page ≡ mark_of pages page) → free_among pages 0 n ≡ 1 + free_among others 0 n
one_taken pages others q zero below free used same = absurd (omega (arith, below))
one_taken pages others q (suc n) below free used same = elim (cases_eq q n) [
  | inl is ↦
      let before : free_among others 0 n ≡ free_among pages 0 n =
      same_free pages others n (λ page less. same page (omega (arith, less)) (λ e. omega (arith, e, less, is))) in
      let place : q ≡ 0 + n = omega (arith, is) in
      let old : mark_of pages (0 + n) ≡ 0 = sym (ap (mark_of pages) place) ∙ free in
      let new : mark_of others (0 + n) ≡ 1 = sym (ap (mark_of others) place) ∙ used in
      omega (arith, before, old, new)
  | inr apart ↦
      let before : free_among pages 0 n ≡ 1 + free_among others 0 n =
      one_taken pages others q n (omega (arith, below, apart)) free used (λ page less. same page (omega (arith, less))) in
      let last : mark_of others (0 + n) ≡ mark_of pages (0 + n) = same (0 + n) (omega arith) (λ e. apart (sym e ∙ omega arith)) in
      omega (arith, before, last)
]
