-- A checkpoint: page 0 alone is a batch, and says a new run, whose log is empty.
use Rattle.std.specs.Prelude.{◌≡◌, ℕ, ◌+◌, ◌<◌, ◌==◌, if◌then◌else◌, List, length}
use Rattle.store_api.specs.Areas.{State, MayLeave, IsHonestArea}
use Rattle.store_api.specs.declared.limits.TheConstants.{MOST_PAGES}
use Rattle.log_format.specs.declared.block.TheConstants.{BLOCK}
use Rattle.stored_pages.specs.Words.{lsn_of}
use Rattle.log_format.specs.declared.group.Group.{Group}
use Rattle.log_format.specs.Block.{IsGood}
use Rattle.doublewrite.specs.Batches.{BatchView, IsBatch, page_at, number_at}
use Rattle.law_logged_pages.specs.Applied.{logical}
use Rattle.law_logged_pages.specs.Stages.{AreBytes}
use Rattle.law_logged_pages.specs.Keeping.{IsPlaced}
use Rattle.flusher.specs.Flushing.{IsKept}
use Rattle.page_recovery.specs.Reading.{IsFileHeader}

-- the pages with which the new run begins: page 0 as it is written, and the others as all groups have left them
abbrev pub begun : List ℕ → (ℕ → List ℕ) → List Group → ℕ → List ℕ
begun header base groups page = if page == 0 then header else logical base groups (length groups) page

-- All groups are flushed, and each page is in its place for good as they have left it, or nobody has written it.
pub record IsClean (first flushed : ℕ) (groups : List Group) (base : ℕ → List ℕ) (s : State) : Type 0 where
  pub all : flushed + 1 ≡ first + length groups
  pub placed : IsPlaced first flushed groups base s
  pub each : (page : ℕ) → page < MOST_PAGES → IsKept groups base page s

-- The batch is page 0 with the LSN after the last. It says the next run, which begins with the LSN after that; and no block
-- of that run stands at the log's beginning.
pub record IsCheckpoint (capacity run first : ℕ) (groups : List Group) (batch : BatchView) (before : State) : Type 0 where
  pub is_batch : IsBatch batch
  pub alone : batch.count ≡ 1
  pub number : number_at batch 0 ≡ 0
  pub are_bytes : AreBytes 8 (page_at batch 0)
  pub lsn : lsn_of (page_at batch 0) ≡ first + length groups
  pub header : IsFileHeader capacity (run + 1) (first + length groups + 1) (page_at batch 0)
  pub unused : (area : List ℕ) → MayLeave before.log area → IsHonestArea BLOCK before.log area → IsGood (run + 1) 0 area → ⊥
