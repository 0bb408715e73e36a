-- What a crash leaves for recovery, and leaves still while recovery is under way.
use Rattle.std.specs.Prelude.{◌≡◌, ℕ, ◌<◌, ◌≤◌, [], Option, List}
use Rattle.store_api.specs.Areas.{State, Image, IsImage, IsHonest}
use Rattle.log_format.specs.declared.group.Group.{Group}
use Rattle.redo_log.specs.Logged.{HoldsPrefix}
use Rattle.stored_pages.specs.Reading.{IsPageIn}
use Rattle.doublewrite.specs.Repairing.{IsQuiet, WasRead}
use Rattle.law_logged_pages.specs.Stages.{IsStage}
use Rattle.law_logged_pages.specs.Heads.{SpareHead}
use Rattle.law_logged_pages.specs.Keeping.{IsRun, durable}
use Rattle.store_api.specs.Looks.{HoldsSame}
use Rattle.store_api.specs.declared.limits.TheConstants.{MOST_PAGES}
use Rattle.page_recovery.specs.Reading.{IsFileHeader}

-- Nothing is pending in any area, and a read of pages gives none by chance.
pub record IsStill (s : State) : Type 0 where
  pub quiet : IsQuiet s
  pub log_rest : s.log.writes ≡ []
  pub log_seen : s.log.seen ≡ s.log.synced

-- it is this state
abbrev pub Is : State → State → Type 0
Is before s = s ≡ before

-- a crash leaves each page as it was read before, and the log
pub record StillReads (before s : State) : Type 0 where
  pub each : (image : Image) → IsImage s image → IsHonest s image → (page : ℕ) (content : Option (List ℕ)) → page < MOST_PAGES
      → IsPageIn image.pages image.double page content → WasRead before page content
  pub log : HoldsSame before.log s.log

-- ---- a run of groups

-- All groups of a run, the pages as they stood at its beginning, and page 0 among them, which says the run for good.
pub record IsFileRun (capacity run first : ℕ) (groups : List Group) (base : ℕ → List ℕ) : Type 0 where
  pub is : IsRun first groups base
  pub spared : SpareHead groups
  pub header : IsFileHeader capacity run first (base 0)

-- The log holds the flushed groups and maybe more, and each page is found at one of its stages up to those that were flushed by now.
pub record LeavesRun (run first flushed : ℕ) (groups : List Group) (base : ℕ → List ℕ) (image : Image) : Type 0 where
  pub now : ℕ
  pub later : flushed ≤ now
  pub log : HoldsPrefix run first groups now image.log
  pub pages : (page : ℕ) (content : Option (List ℕ)) → page < MOST_PAGES → IsPageIn image.pages image.double page content
      → IsStage base groups (durable first now) page content

-- So does whatever a crash leaves, and its log is that of before.
pub record LeavesSame (run first flushed : ℕ) (groups : List Group) (base : ℕ → List ℕ) (before s : State) : Type 0 where
  pub runs : (image : Image) → IsImage s image → IsHonest s image → LeavesRun run first flushed groups base image
  pub log : (image : Image) → IsImage s image → image.log ≡ before.log.seen
