-- What the disk holds of a run while its pages are flushed, and what whatever a crash leaves stands for.
use Rattle.std.specs.Prelude.{◌≡◌, ◌⊎◌, ℕ, ◌<◌, ◌≤◌, true, false, Option, Some, None, List, length, replicate, All}
use Rattle.store_api.specs.Areas.{State}
use Rattle.stored_pages.specs.declared.layout.TheConstants.{PAGE}
use Rattle.store_api.specs.declared.limits.TheConstants.{MOST_PAGES}
use Rattle.stored_pages.specs.Words.{number_of}
use Rattle.log_format.specs.declared.group.Group.{Group}
use Rattle.redo_log.specs.View.{LogView}
use Rattle.redo_log.specs.Logged.{IsLogged}
use Rattle.buffer_pool.specs.Frames.{PoolView, is_dirty, bytes_of}
use Rattle.doublewrite.specs.Batches.{BatchView, StagedView, IsBatch, IsInBatch, page_at, number_at}
use Rattle.stored_pages.specs.Reading.{place_of}
use Rattle.doublewrite.specs.Kept.{IsSettled, IsStaged, HasPlaced, WasPage}
use Rattle.doublewrite.specs.Places.{LeavesPages, PutsPage}
use Rattle.law_logged_pages.specs.Applied.{names, logical}
use Rattle.law_logged_pages.specs.Stages.{AreBytes, SameButSum}
use Rattle.law_logged_pages.specs.Keeping.{IsRun, Keeps, IsPlaced, MayBePlaced}

-- Each changed page of the pool is what all groups have left of it.
pub record AreNewest (groups : List Group) (base : ℕ → List ℕ) (pool : PoolView) : Type 0 where
  pub number : (page : ℕ) → is_dirty pool page ≡ true → number_of (bytes_of pool page) ≡ page
  pub newest : (page : ℕ) → is_dirty pool page ≡ true → SameButSum (bytes_of pool page) (logical base groups (length groups) page)

-- Each page of the batch is what all groups have left of it.
pub record AreNewestIn (groups : List Group) (base : ℕ → List ℕ) (batch : BatchView) : Type 0 where
  pub is_batch : IsBatch batch
  pub are_bytes : (page : ℕ) (bytes : List ℕ) → IsInBatch batch page bytes → AreBytes 8 bytes
  pub newest : (page : ℕ) (bytes : List ℕ) → IsInBatch batch page bytes → SameButSum bytes (logical base groups (length groups) page)

-- The batch was staged where the areas stood as before, and so many of its pages are in their places.
pub record IsUnderWay (first flushed : ℕ) (groups : List Group) (base : ℕ → List ℕ) (staged : StagedView) (before s : State) : Type 0 where
  pub placed : IsPlaced first flushed groups base before
  pub may : MayBePlaced first flushed groups base staged.batch before
  pub stands : IsStaged before staged.batch s
  pub in_place : HasPlaced staged s

-- the pages stand at their stages, those of the batch under way among them
abbrev pub HoldsPages : ℕ → ℕ → List Group → (ℕ → List ℕ) → Option StagedView → State → Type 0
HoldsPages first flushed groups base None s = IsPlaced first flushed groups base s
HoldsPages first flushed groups base (Some staged) s = (before : State) × IsUnderWay first flushed groups base staged before s

-- The disk holds these groups of a run with the log, and the pages at their stages.
pub record HoldsRun (first : ℕ) (groups : List Group) (base : ℕ → List ℕ) (staged : Option StagedView) (log : LogView) (s : State) : Type 0 where
  pub run : IsRun first groups base
  pub logged : IsLogged first groups log s.log
  pub pages : HoldsPages first log.flushed groups base staged s

-- Whatever a crash leaves now recovers, with all groups that were flushed so far, and maybe more.
pub record KeepsSince (run first flushed : ℕ) (groups : List Group) (base : ℕ → List ℕ) (s : State) : Type 0 where
  pub now : ℕ
  pub later : flushed ≤ now
  pub keeps : Keeps run first now groups base s

-- the pages of the batch that are placed are in their places
abbrev pub AreInPlace : Option StagedView → State → Type 0
AreInPlace None s = Unit {0}
AreInPlace (Some staged) s = HasPlaced staged s

-- the batch with all its pages placed, if it was under way and is no more
abbrev pub whole_or : Option StagedView → Option StagedView → Option StagedView
whole_or None new = new
whole_or (Some staged) None = Some (record { batch = staged.batch; placed = staged.batch.count })
whole_or (Some staged) (Some new) = Some new

-- The page stands in its place for good with these bytes, but for its sum.
pub record IsHome (page : ℕ) (bytes : List ℕ) (s : State) : Type 0 where
  pub settled : IsSettled page s.pages
  pub same : SameButSum (place_of page s.pages.synced) bytes

-- each page that became clean stands in its place for good as it is in the pool
abbrev pub AreHome : PoolView → PoolView → State → Type 0
AreHome old new s = (page : ℕ) → is_dirty old page ≡ true → is_dirty new page ≡ false → IsHome page (bytes_of new page) s

-- What a step makes of what reads give: the next page of the batch under way stands in its place, and each other page as before.
abbrev pub Places : Option StagedView → State → State → Type 0
Places None before s = LeavesPages before s
Places (Some staged) before s = PutsPage (number_at staged.batch staged.placed) (page_at staged.batch staged.placed) before s

-- ---- pages that nobody need flush

-- All groups have left zeros of the page, and nobody has written it.
pub record IsNowhere (page : ℕ) (bytes : List ℕ) (s : State) : Type 0 where
  pub zeros : bytes ≡ replicate PAGE 0
  pub no_page : (other : List ℕ) → WasPage s page (Some other) → ⊥

-- The page is in its place for good as all groups have left it, or nobody has written it.
abbrev pub IsKept : List Group → (ℕ → List ℕ) → ℕ → State → Type 0
IsKept groups base page s =
    IsHome page (logical base groups (length groups) page) s ⊎ IsNowhere page (logical base groups (length groups) page) s

-- each page that isn't changed in the pool is kept
abbrev pub AreKept : List Group → (ℕ → List ℕ) → PoolView → State → Type 0
AreKept groups base pool s = (page : ℕ) → page < MOST_PAGES → is_dirty pool page ≡ false → IsKept groups base page s

-- no group of these names the page
abbrev pub AreSilent : ℕ → List Group → Type 0
AreSilent page groups = All (λ (g : Group). names page g ≡ false) groups
