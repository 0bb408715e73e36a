-- What recovery reads: page 0, which says the log's run, the pages that are good in their places, and the log's groups.
use Rattle.std.specs.Prelude.{◌≡◌, ◌≢◌, ℕ, ◌<◌, ◌≤◌, Option, Some, None, IfSome, IfNone, List, length, slice_index_or}
use Rattle.stored_pages.specs.declared.layout.TheConstants.{FIXED_PAGES, PAGE_COUNT, RUN, FIRST_LSN}
use Rattle.store_api.specs.declared.limits.TheConstants.{MOST_PAGES}
use Rattle.stored_pages.specs.Words.{u32_at, u64_at}
use Rattle.log_format.specs.declared.group.Group.{Group}
use Rattle.log_format.specs.Scan.{IsScan, EndsAt}
use Rattle.log_format.specs.Given.{ReaderView, HasGiven}
use Rattle.stored_pages.specs.Reading.{IsGoodPage, place_of}
use Rattle.law_crashes.specs.Header.{HasMagic, version_of}
use Rattle.page_recovery.specs.Applying.{AreBroughtOn}

-- page 0 of files that keep rows in pages: how many pages there may be, the log's run, and the LSN of its first group
pub record IsFileHeader (capacity run first : ℕ) (page : List ℕ) : Type 0 where
  pub marked : HasMagic page
  pub version : version_of page ≡ 1
  pub pages : u32_at PAGE_COUNT page ≡ capacity
  pub enough : FIXED_PAGES ≤ capacity
  pub few : capacity ≤ MOST_PAGES
  pub of_run : u64_at RUN page ≡ run
  pub begins : u64_at FIRST_LSN page ≡ first

-- the page as it stands in its place, or none where it isn't good there
abbrev pub StandsIn : List ℕ → ℕ → Option (List ℕ) → Type 0
StandsIn area page (Some bytes) = (place_of page area ≡ bytes) × IsGoodPage page bytes
StandsIn area page None = IsGoodPage page (place_of page area) → ⊥

-- so do the first so many pages of the table, and the others aren't there
pub record AreStanding (area : List ℕ) (count : ℕ) (slots : List (Option (List ℕ))) : Type 0 where
  pub each : (page : ℕ) → page < count → StandsIn area page (slice_index_or slots page None)
  pub others : (page : ℕ) → count ≤ page → slice_index_or slots page None ≡ None

-- The page was taken as it stands in its place, if it is good there, and the others are as they were.
pub record IsTaken (area : List ℕ) (page : ℕ) (old new : List (Option (List ℕ))) : Type 0 where
  pub here : slice_index_or old page None ≡ None → StandsIn area page (slice_index_or new page None)
  pub others : (other : ℕ) → other ≢ page → slice_index_or new other None ≡ slice_index_or old other None

-- The reader has given all groups of the log, so many, and this has come of the pages.
pub record IsFollowed (first : ℕ) (log : List ℕ) (start pages : List (Option (List ℕ))) (r : ReaderView) (count : ℕ) (past : Option ℕ) : Type 0 where
  pub groups : List Group
  pub given : HasGiven first log groups r
  pub scan : IsScan r.run first log groups
  pub count_is : count ≡ length groups
  pub brought : AreBroughtOn start groups past pages

-- The groups end before that block, or within one.
pub record EndsBefore (run : ℕ) (log : List ℕ) (groups : List Group) (block : Option ℕ) : Type 0 where
  pub ends : IfSome block (λ n. EndsAt run n log groups)
  pub none : IfNone block ((n : ℕ) → EndsAt run n log groups → ⊥)
