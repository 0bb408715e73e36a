-- What a disk holds of the pages of a run at a moment, and what recovery makes of whatever a crash leaves then.
use Rattle.std.specs.Prelude.{◌≡◌, ◌⊎◌, ℕ, ◌+◌, ◌-◌, ◌<◌, ◌≤◌, IsTrue, Option, None, List, length, take}
use Rattle.store_api.specs.Areas.{State, Image, IsImage, IsHonest}
use Rattle.store_api.specs.declared.limits.TheConstants.{MOST_PAGES}
use Rattle.stored_pages.specs.Words.{lsn_of}
use Rattle.log_format.specs.declared.group.Group.{Group}
use Rattle.log_format.specs.Group.{AreGroups}
use Rattle.log_format.specs.Scan.{IsScan}
use Rattle.redo_log.specs.Logged.{LeavesPrefix}
use Rattle.stored_pages.specs.Reading.{IsPageIn}
use Rattle.doublewrite.specs.Batches.{BatchView, IsBatch, IsInBatch}
use Rattle.doublewrite.specs.Kept.{HadCopy, IsSettled, WasPage}
use Rattle.law_logged_pages.specs.Applied.{page_after, logical}
use Rattle.law_logged_pages.specs.Stages.{AreBytes, SameButSum, IsBase, begins_fresh, records_in, WasOnce, IsStage, or_zeros}

-- All groups of a run, and the pages as they stood at its beginning.
pub record IsRun (first : ℕ) (groups : List Group) (base : ℕ → List ℕ) : Type 0 where
  pub each : AreGroups first groups
  pub bases : (page : ℕ) → IsBase first (base page)

-- how many groups there are up to the flushed LSN
abbrev pub durable : ℕ → ℕ → ℕ
durable first flushed = flushed + 1 - first

-- Whatever a crash leaves, its log holds the flushed groups and maybe more, and each page is found at one of its stages up to them.
pub record Keeps (run first flushed : ℕ) (groups : List Group) (base : ℕ → List ℕ) (s : State) : Type 0 where
  pub log : LeavesPrefix run first groups flushed s.log
  pub pages : (image : Image) → IsImage s image → IsHonest s image → (page : ℕ) (content : Option (List ℕ)) → page < MOST_PAGES
      → IsPageIn image.pages image.double page content → IsStage base groups (durable first flushed) page content

-- Its log is scanned to the first so many groups, among them the flushed ones, and these bring each page that is found on
-- to what it was after them all. Of a page that isn't found they have no record, or first one that makes it.
pub record Recovers (run first flushed : ℕ) (groups : List Group) (base : ℕ → List ℕ) (image : Image) : Type 0 where
  pub count : ℕ
  pub some : count ≤ length groups
  pub all_flushed : durable first flushed ≤ count
  pub scan : IsScan run first image.log (take count groups)
  pub pages : (page : ℕ) (content : Option (List ℕ)) → page < MOST_PAGES → IsPageIn image.pages image.double page content
      → SameButSum (page_after page (take count groups) (or_zeros content)) (logical base groups count page)
  pub made : (page : ℕ) → page < MOST_PAGES → IsPageIn image.pages image.double page None → IsTrue (begins_fresh page (records_in (take count groups)))

-- ---- where pages are placed

-- a copy in Double: what the page was after some of the first so many groups, or older than the run's beginning
pub record IsOldCopy (base : ℕ → List ℕ) (groups : List Group) (count page : ℕ) (bytes : List ℕ) : Type 0 where
  pub are_bytes : AreBytes 8 bytes
  pub once : WasOnce base groups count page bytes ⊎ (lsn_of bytes < lsn_of (base page))

-- No batch is under way: each page was good in its place for good, or has no copy. What stands there are stages, and copies are old.
pub record IsPlaced (first flushed : ℕ) (groups : List Group) (base : ℕ → List ℕ) (s : State) : Type 0 where
  pub stages : (page : ℕ) (content : Option (List ℕ)) → page < MOST_PAGES → WasPage s page content → IsStage base groups (durable first flushed) page content
  pub settled : (page : ℕ) → page < MOST_PAGES → IsSettled page s.pages ⊎ ((bytes : List ℕ) → HadCopy page s.double bytes → ⊥)
  pub copies : (page : ℕ) (bytes : List ℕ) → page < MOST_PAGES → HadCopy page s.double bytes → IsOldCopy base groups (durable first flushed) page bytes

-- The batch's pages are what they are after all groups, and log before page: the last of these that changed them is flushed.
pub record IsLoggedBefore (flushed : ℕ) (groups : List Group) (base : ℕ → List ℕ) (batch : BatchView) : Type 0 where
  pub is_batch : IsBatch batch
  pub are_bytes : (page : ℕ) (bytes : List ℕ) → IsInBatch batch page bytes → AreBytes 8 bytes
  pub newest : (page : ℕ) (bytes : List ℕ) → IsInBatch batch page bytes → SameButSum bytes (logical base groups (length groups) page)
  pub log_first : (page : ℕ) (bytes : List ℕ) → IsInBatch batch page bytes → lsn_of bytes ≤ flushed

-- The batch may be placed where the areas stood so: its pages are stages, and copies of them are older, or the same.
pub record MayBePlaced (first flushed : ℕ) (groups : List Group) (base : ℕ → List ℕ) (batch : BatchView) (before : State) : Type 0 where
  pub is_batch : IsBatch batch
  pub are_bytes : (page : ℕ) (bytes : List ℕ) → IsInBatch batch page bytes → AreBytes 8 bytes
  pub stages : (page : ℕ) (bytes : List ℕ) → IsInBatch batch page bytes → WasOnce base groups (durable first flushed) page bytes
  pub older : (page : ℕ) (bytes other : List ℕ) → page < MOST_PAGES → IsInBatch batch page bytes → HadCopy page before.double other
      → (other ≡ bytes) ⊎ (lsn_of other < lsn_of bytes)
