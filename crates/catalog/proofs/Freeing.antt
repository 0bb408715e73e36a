-- Counts of free pages: one that is taken is one less, and what stands on other pages doesn't count.
use Rattle.std.proofs.Common.{◌≡◌, ◌≢◌, ℕ, zero, suc, ◌+◌, ◌%◌, ◌<◌, ◌≤◌, inl, inr, List, ap, refl, arith}
use Rattle.std.specs.Prelude.{slice_index}
use Rattle.std.specs.Int.{bit_at}
use Rattle.std.proofs.lemmas.Bool.{cases_eq}
use Rattle.mtr.specs.Seen.{MtrState}
use Rattle.mtr.specs.Calls.{SeesAt}
use Rattle.space_map.specs.Map.{map_page, byte_of, mark_of, free_among}

mark_here : (pages : ℕ → List ℕ) (n : ℕ) → mark_of pages (0 + n) ≡ mark_of pages n
mark_here pages n = ap (mark_of pages) {x = 0 + n} {y = n} (omega arith)

pub free_same : (a b : ℕ → List ℕ) (n : ℕ) → ((page : ℕ) → page < n → mark_of b page ≡ mark_of a page) → free_among b 0 n ≡ free_among a 0 n
free_same a b zero same = refl
free_same a b (suc n) same =
    let rest = free_same a b n (λ page below. same page (omega arith)) in
    let here = same n (omega arith) in
    omega (arith, rest, here, mark_here a n, mark_here b n)

pub free_one_less : (a b : ℕ → List ℕ) (page n : ℕ) → page < n → mark_of a page ≡ 0 → mark_of b page ≡ 1 → ((other : ℕ) → other ≢ page → mark_of b other ≡ mark_of a other) → free_among b 0 n + 1 ≡ free_among a 0 n
free_one_less a b page zero below was is others = absurd (omega arith)
free_one_less a b page (suc n) below was is others = elim (cases_eq n page) [
  | inl last ↦
      let rest = free_same a b n (λ other under. others other (omega arith)) in
      let before = ap (mark_of a) last in
      let after = ap (mark_of b) last in
      omega (arith, rest, before, after, was, is, mark_here a n, mark_here b n)
  | inr apart ↦
      let rest = free_one_less a b page n (omega arith) was is others in
      let here = others n apart in
      omega (arith, rest, here, mark_here a n, mark_here b n)
]

pub none_free : (pages : ℕ → List ℕ) (n : ℕ) → ((page : ℕ) → page < n → mark_of pages page ≡ 0 → ⊥) → free_among pages 0 n ≡ 0
none_free pages zero used = refl
none_free pages (suc n) used =
    let rest = none_free pages n (λ page below. used page (omega arith)) in
    let here : mark_of pages n ≢ 0 = used n (omega arith) in
    omega (arith, rest, here, mark_here pages n)

-- a page behind those of the map has no bits of it
pub mark_kept : (a b : MtrState) (page : ℕ) (bytes : List ℕ) → 5 ≤ page → SeesAt page bytes a b → (other : ℕ) → other < 65536 → mark_of b.seen other ≡ mark_of a.seen other
mark_kept a b page bytes above sees other inside =
    let apart : map_page other ≢ page = λ same. omega (arith, same) in
    ap (λ (l : List ℕ). bit_at (slice_index l (byte_of other)) (other % 8)) (sees.elsewhere (map_page other) apart)
