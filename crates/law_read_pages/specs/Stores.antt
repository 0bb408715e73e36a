-- What contracts see of pages in memory with their log and disk, and what one step makes of them.
-- `Durable` speaks of such files. No engine that runs keeps its rows in pages yet.
use Rattle.std.specs.Prelude.{◌≡◌, ℕ, ◌+◌, ◌<◌, ◌≤◌, Bool, true, false, List, ◌++◌, length, None}
use Rattle.store_api.specs.Past.{Past, Now, Meanwhile}
use Rattle.store_api.specs.declared.limits.TheConstants.{MOST_PAGES}
use Rattle.log_format.specs.declared.group.Group.{Group}
use Rattle.redo_log.specs.View.{LogView}
use Rattle.law_logged_pages.specs.Applied.{logical}
use Rattle.law_logged_pages.specs.Stages.{SameButSum}
use Rattle.law_logged_pages.specs.Heads.{SpareHead}
use Rattle.law_logged_pages.specs.Keeping.{IsRun}
use Rattle.flusher.specs.Flushing.{HoldsRun, KeepsSince}

pub record Store : Type 0 where
  pub disk : Past
  pub log : LogView
  -- as they stand for everybody
  pub pages : ℕ → List ℕ
  -- a call of the disk has failed: nothing is written or logged any more
  pub failed : Bool

-- The disk and the log hold the run, and the pages are what all groups have left of them.
pub record HoldsStore (first : ℕ) (groups : List Group) (base : ℕ → List ℕ) (s : Store) : Type 0 where
  pub run : IsRun first groups base
  pub heads : SpareHead groups
  pub holds : Now (HoldsRun first groups base None s.log) s.disk
  pub within : s.log.flushed < first + length groups
  pub newest : (page : ℕ) → page < MOST_PAGES → SameButSum (logical base groups (length groups) page) (s.pages page)

-- A step has appended one group, or none; before that it may have flushed what was there.
pub record Appends (first : ℕ) (groups : List Group) (base : ℕ → List ℕ) (old new : Store) : Type 0 where
  pub more : List Group
  pub few : length more ≤ 1
  pub run_is : new.log.run ≡ old.log.run
  pub flushed : old.log.flushed ≤ new.log.flushed
  pub holds : new.failed ≡ false → HoldsStore first (groups ++ more) base new
  pub crash : Meanwhile (KeepsSince old.log.run first old.log.flushed groups base) old.disk new.disk

pub record StoreGoes (old new : Store) : Type 0 where
  pub goes : old.failed ≡ false → (first : ℕ) (groups : List Group) (base : ℕ → List ℕ) → HoldsStore first groups base old
      → Appends first groups base old new
  pub failed : old.failed ≡ true → (new.failed ≡ true) × (new.disk ≡ old.disk)
