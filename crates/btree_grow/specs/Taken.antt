-- What taking a page makes of the pages.
use Rattle.std.specs.Prelude.{◌≡◌, ◌≢◌, ◌⊎◌, ℕ, ◌<◌, ◌≤◌, List, length}
use Rattle.stored_pages.specs.declared.layout.TheConstants.{PAGE, PAGE_COUNT}
use Rattle.store_api.specs.declared.limits.TheConstants.{MOST_PAGES}
use Rattle.stored_pages.specs.Words.{u32_at}
use Rattle.space_map.specs.Map.{mark_of}

-- the first pages of the file are in use, and are no tree's
abbrev pub AreReserved : (ℕ → List ℕ) → Type 0
AreReserved pages = (page : ℕ) → page ≤ 20 → mark_of pages page ≡ 1

-- A page that was free is marked as used, and nothing stands on it yet. Page 0 counts no more pages than the map has marks for. Other
-- pages keep their marks, and all but the map's are as before.
pub record TakesPage (page : ℕ) (old new : ℕ → List ℕ) : Type 0 where
  pub beyond : 20 < page
  pub small : page < MOST_PAGES
  pub counted : page < u32_at PAGE_COUNT (old 0)
  pub covered : u32_at PAGE_COUNT (old 0) ≤ MOST_PAGES
  pub was_free : mark_of old page ≡ 0
  pub used : mark_of new page ≡ 1
  pub marks : (other : ℕ) → other < MOST_PAGES → other ≢ page → mark_of new other ≡ mark_of old other
  pub blank : length (new page) ≡ PAGE
  pub others : (other : ℕ) → other ≢ page → (other < 2) ⊎ (4 < other) → new other ≡ old other
