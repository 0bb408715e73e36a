-- Pages by the parts of the map: which bit of which of its pages is a page's.
use Rattle.std.proofs.Common.{◌≡◌, inl, inr, ℕ, zero, suc, ◌+◌, ◌-◌, ◌*◌, ◌/◌, ◌%◌, ◌<◌, ◌≤◌, min, List, drop, true, Some, None, refl, sym, ap, ◌∙◌, subst, arith}
use Rattle.std.specs.Prelude.{slice_index}
use Rattle.std.specs.Int.{bit_at}
use Rattle.std.proofs.lemmas.Bool.{cases_lt}
use Rattle.std.proofs.lemmas.Bool.Decides.{nat_tests}
use Rattle.mtr.specs.Seen.{is_in, AreDistinct}
use Rattle.mtr.proofs.Behind.{byte-behind}
use Rattle.space_map.specs.Map.{bit_in, mark_of, free_among, IsFirstFree}
use Rattle.space_map.specs.Places.{free_places}
use Rattle.space_map.specs.Taking.{map_pages}

pub map_page_known : (page : ℕ) → 2 ≤ page → page ≤ 4 → is_in page map_pages ≡ true
map_page_known page low high = grind (arith, nat_tests)

pub distinct_map_pages : AreDistinct map_pages
distinct_map_pages = (refl, (refl, (refl, (refl, tt))))

pub mark_place : (pages : ℕ → List ℕ) (part place : ℕ) → place < 32512 → mark_of pages (32512 * part + place) ≡ bit_in (pages (2 + part)) place
mark_place pages part place within =
    let page = 32512 * part + place in
    let in_part : page / 32512 ≡ part = omega arith in
    let rest : page % 32512 ≡ place = omega arith in
    let bit : page % 8 ≡ place % 8 = omega arith in
    ap (λ (n : ℕ). bit_at (slice_index (pages (2 + n)) (32 + page % 32512 / 8)) (page % 8)) in_part
    ∙ ap (λ (n : ℕ). bit_at (slice_index (pages (2 + part)) (32 + n / 8)) (page % 8)) rest
    ∙ ap (bit_at (slice_index (pages (2 + part)) (32 + place / 8))) bit

-- the same of bytes that show the page of the map
pub mark_shown : (pages : ℕ → List ℕ) (map : List ℕ) (part place : ℕ) → drop 20 map ≡ drop 20 (pages (2 + part)) → place < 32512 → mark_of pages (32512 * part + place) ≡ bit_in map place
mark_shown pages map part place same within = mark_place pages part place within ∙ ap (λ (n : ℕ). bit_at n (place % 8)) (sym (byte-behind (32 + place / 8) map (pages (2 + part)) (omega arith) same))

pub marked_in_part : (pages : ℕ → List ℕ) (map : List ℕ) (part end page : ℕ) → drop 20 map ≡ drop 20 (pages (2 + part)) → end ≤ 32512 → ((place : ℕ) → place < end → bit_in map place ≡ 1) → 32512 * part ≤ page → page < 32512 * part + end → mark_of pages page ≡ 1
marked_in_part pages map part end page same few marked from to =
    let place : 32512 * part + (page - 32512 * part) ≡ page = omega arith in
    let below : page - 32512 * part < end = omega arith in
    subst (λ (n : ℕ). mark_of pages n ≡ 1) place (mark_shown pages map part (page - 32512 * part) same (omega arith) ∙ marked (page - 32512 * part) below)

pub first_none : (pages : ℕ → List ℕ) (map : List ℕ) (part count end : ℕ) → drop 20 map ≡ drop 20 (pages (2 + part)) → end ≡ min count (32512 * (part + 1)) - 32512 * part → ((place : ℕ) → place < end → bit_in map place ≡ 1) → IsFirstFree pages (32512 * part) (min count (32512 * (part + 1))) None
first_none pages map part count end same len marked = λ page from to.
    let below : page < 32512 * part + end = omega arith in
    marked_in_part pages map part end page same (omega arith) marked from below

pub first_some : (pages : ℕ → List ℕ) (map : List ℕ) (part count end found : ℕ) → drop 20 map ≡ drop 20 (pages (2 + part)) → end ≡ min count (32512 * (part + 1)) - 32512 * part → found < end → bit_in map found ≡ 0 → ((place : ℕ) → place < found → bit_in map place ≡ 1)
    → IsFirstFree pages (32512 * part) (min count (32512 * (part + 1))) (Some (32512 * part + found))
first_some pages map part count end found same len within unmarked marked = (
  omega arith,
  omega arith,
  mark_shown pages map part found same (omega arith) ∙ unmarked,
  λ page from to. marked_in_part pages map part found page same (omega arith) marked from to,
)

-- ---- parts one after another

pub marked_on : (pages : ℕ → List ℕ) (part count : ℕ) → ((page : ℕ) → page < min count (32512 * part) → mark_of pages page ≡ 1) → IsFirstFree pages (32512 * part) (min count (32512 * (part + 1))) None → (page : ℕ) → page < min count (32512 * (part + 1)) → mark_of pages page ≡ 1
marked_on pages part count before here page below = elim (cases_lt page (32512 * part)) [
  | inl early ↦ before page (omega arith)
  | inr late ↦ here page late below
]

pub first_joined : (pages : ℕ → List ℕ) (part count found : ℕ) → ((page : ℕ) → page < min count (32512 * part) → mark_of pages page ≡ 1) → IsFirstFree pages (32512 * part) (min count (32512 * (part + 1))) (Some found) → IsFirstFree pages 0 count (Some found)
first_joined pages part count found before here = (
  omega arith,
  omega (arith, here.1),
  here.2,
  λ page from to.
      elim (cases_lt page (32512 * part)) [
        | inl early ↦ before page (omega (arith, here.0, here.1))
        | inr late ↦ here.3 page late to
      ],
)

-- ---- counts

pub free_in_places : (pages : ℕ → List ℕ) (map : List ℕ) (part n : ℕ) → drop 20 map ≡ drop 20 (pages (2 + part)) → n ≤ 32512 → free_places map n ≡ free_among pages (32512 * part) n
free_in_places pages map part zero same few = refl
free_in_places pages map part (suc n) same few =
    let rest = free_in_places pages map part n same (omega arith) in
    let here = mark_shown pages map part n same (omega arith) in
    omega (arith, rest, here)

pub free_joined : (pages : ℕ → List ℕ) (m n : ℕ) → free_among pages 0 (m + n) ≡ free_among pages 0 m + free_among pages m n
free_joined pages m zero = ap (free_among pages 0) {y = m} (omega arith) ∙ omega arith
free_joined pages m (suc n) =
    let next : m + suc n ≡ suc (m + n) = omega arith in
    let place : mark_of pages (0 + (m + n)) ≡ mark_of pages (m + n) = ap (mark_of pages) {x = 0 + (m + n)} {y = m + n} (omega arith) in
    let grown : free_among pages 0 (m + suc n) ≡ free_among pages 0 (m + n) + (1 - mark_of pages (0 + (m + n))) = ap (free_among pages 0) next in
    omega (arith, grown, place, free_joined pages m n)

pub count_joined : (pages : ℕ → List ℕ) (part count : ℕ)
    → free_among pages 0 (min count (32512 * part)) + free_among pages (32512 * part) (min count (32512 * (part + 1)) - 32512 * part) ≡ free_among pages 0 (min count (32512 * (part + 1)))
count_joined pages part count = elim (cases_lt count (32512 * part)) [
  | inl past ↦
      let all : free_among pages 0 (min count (32512 * part)) ≡ free_among pages 0 (min count (32512 * (part + 1))) = ap (free_among pages 0) (omega arith) in
      let none : free_among pages (32512 * part) (min count (32512 * (part + 1)) - 32512 * part) ≡ 0 = ap (free_among pages (32512 * part)) {y = 0} (omega arith) in
      omega (arith, all, none)
  | inr inside ↦
      let before : free_among pages 0 (min count (32512 * part)) ≡ free_among pages 0 (32512 * part) = ap (free_among pages 0) (omega arith) in
      let rest = min count (32512 * (part + 1)) - 32512 * part in
      let all : free_among pages 0 (32512 * part + rest) ≡ free_among pages 0 (min count (32512 * (part + 1))) = ap (free_among pages 0) (omega arith) in
      omega (arith, before, all, free_joined pages (32512 * part) rest)
]
