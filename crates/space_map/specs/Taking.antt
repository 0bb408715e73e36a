-- What taking a page and giving one back make of the pages, and why neither is done.
use Rattle.std.specs.Prelude.{◌≡◌, ◌≢◌, ℕ, ◌<◌, ◌≤◌, List, [], ◌∷◌, length, IsTrue}
use Rattle.stored_pages.specs.Words.{u32_at}
use Rattle.store_api.specs.declared.visits.SpaceBad.{SpaceBad}
use Rattle.store_api.specs.declared.visits.SpaceBad.TheVariants.{Full, Visit, NoMemory}
use Rattle.stored_pages.specs.declared.layout.TheConstants.{PAGE, FIXED_PAGES, PAGE_COUNT}
use Rattle.store_api.specs.declared.limits.TheConstants.{MOST_PAGES}
use Rattle.mtr.specs.Seen.{MtrState, Visits, with_bytes}
use Rattle.mtr.specs.Calls.{Goes, SeesAt, Spends, IsReason}
use Rattle.space_map.specs.Map.{map_page, byte_of, mark_of, IsFree}

-- page 0, which counts the pages, and the map
abbrev pub map_pages : List ℕ
map_pages = 0 ∷ 2 ∷ 3 ∷ 4 ∷ []

-- page 0 counts as many pages as a file can have
abbrev pub HasPageCount : (ℕ → List ℕ) → Type 0
HasPageCount pages = (FIXED_PAGES ≤ u32_at PAGE_COUNT (pages 0)) × (u32_at PAGE_COUNT (pages 0) ≤ MOST_PAGES)

-- it counts fewer or more, which breaks the rule on fields
abbrev pub Miscounts : ℕ → ℕ → (ℕ → List ℕ) → Type 0
Miscounts page rule pages = (page ≡ 0) × (rule ≡ 1) × (HasPageCount pages → ⊥)

-- One byte of the map has changed: the page has this mark, and the others have theirs.
pub record MarksPage (page mark : ℕ) (old new : MtrState) : Type 0 where
  pub size : length (old.seen (map_page page)) ≡ PAGE
  pub byte : ℕ
  pub seen : SeesAt (map_page page) (with_bytes (byte_of page) (byte ∷ []) (old.seen (map_page page))) old new
  pub here : mark_of new.seen page ≡ mark
  pub others : (other : ℕ) → other ≢ page → mark_of new.seen other ≡ mark_of old.seen other

pub record Marks (page mark : ℕ) (old new : MtrState) : Type 0 where
  pub goes : Goes old new
  pub pages : IsTrue new.told → MarksPage page mark old new
  pub visits : Visits map_pages old new
  pub spare : Spends 10 old new

-- The first free page is marked as used.
pub record Takes (page : ℕ) (old new : MtrState) : Type 0 where
  pub marks : Marks page 1 old new
  pub was_free : IsTrue new.told → IsFree old page
  pub first : IsTrue new.told → (other : ℕ) → other < page → mark_of old.seen other ≡ 1

-- why no page is taken
abbrev pub IsTakeReason : MtrState → MtrState → SpaceBad → Type 0
IsTakeReason old new Full = IsTrue new.told → (page : ℕ) → IsFree old page → ⊥
IsTakeReason old new (Visit why) = IsReason map_pages Miscounts old new why
IsTakeReason old new NoMemory = old.spare < 10

-- why no page is given back
abbrev pub IsGiveReason : MtrState → MtrState → SpaceBad → Type 0
IsGiveReason old new Full = ⊥
IsGiveReason old new (Visit why) = IsReason map_pages Miscounts old new why
IsGiveReason old new NoMemory = old.spare < 10
