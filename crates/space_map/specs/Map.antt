-- The map of used pages. It stands on pages 2 to 4, one bit for each page, 1 for a used one.
use Rattle.std.specs.Prelude.{◌≡◌, ℕ, zero, suc, ◌+◌, ◌-◌, ◌/◌, ◌%◌, ◌<◌, ◌≤◌, List, slice_index, Option, Some, None}
use Rattle.std.specs.Int.{bit_at}
use Rattle.stored_pages.specs.declared.layout.TheConstants.{FIRST_MAP_PAGE, BITS, COVERED}
use Rattle.mtr.specs.Seen.{MtrState, capacity_of}

-- each page of the map has the bits of 32,512 pages
abbrev pub map_page : ℕ → ℕ
map_page page = FIRST_MAP_PAGE + page / COVERED

-- the byte that has a page's bit
abbrev pub byte_of : ℕ → ℕ
byte_of page = BITS + page % COVERED / 8

-- the bit of the place's page in a page of the map: 1 for a used page
abbrev pub bit_in : List ℕ → ℕ → ℕ
bit_in map place = bit_at (slice_index map (BITS + place / 8)) (place % 8)

abbrev pub mark_of : (ℕ → List ℕ) → ℕ → ℕ
mark_of pages page = bit_at (slice_index (pages (map_page page)) (byte_of page)) (page % 8)

-- the map says that the page is free, and page 0 that there is such a page
pub record IsFree (s : MtrState) (page : ℕ) : Type 0 where
  pub within : page < capacity_of s
  pub unmarked : mark_of s.seen page ≡ 0

-- how many of the pages from one on are free, of so many
abbrev pub free_among : (ℕ → List ℕ) → ℕ → ℕ → ℕ
free_among pages from zero = 0
free_among pages from (suc n) = free_among pages from n + (1 - mark_of pages (from + n))

-- the first of the pages from one on that is free, below another
abbrev pub IsFirstFree : (ℕ → List ℕ) → ℕ → ℕ → Option ℕ → Type 0
IsFirstFree pages from to None = (page : ℕ) → from ≤ page → page < to → mark_of pages page ≡ 1
IsFirstFree pages from to (Some found) =
    (from ≤ found) × (found < to) × (mark_of pages found ≡ 0) × ((page : ℕ) → from ≤ page → page < found → mark_of pages page ≡ 1)
