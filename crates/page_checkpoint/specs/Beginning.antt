-- When a run may end, and what the disk holds while the next one begins.
use Rattle.std.specs.Prelude.{◌≡◌, ◌≢◌, ◌⊎◌, ℕ, ◌+◌, ◌^◌, ◌<◌, ◌≤◌, true, false, None, Some, List, [], length, replicate, All}
use Rattle.store_api.specs.Areas.{State, Contents, Image, Write, IsImage, IsHonest}
use Rattle.store_api.specs.Causes.{Rose}
use Rattle.store_api.specs.Past.{Past}
use Rattle.stored_pages.specs.declared.layout.TheConstants.{RUN, FIRST_LSN}
use Rattle.store_api.specs.declared.limits.TheConstants.{MOST_PAGES}
use Rattle.log_format.specs.declared.block.TheConstants.{BLOCK}
use Rattle.stored_pages.specs.Words.{u64_at}
use Rattle.log_format.specs.declared.group.Group.{Group}
use Rattle.log_format.specs.Block.{IsGood}
use Rattle.redo_log.specs.View.{LogView}
use Rattle.buffer_pool.specs.Frames.{PoolView, slot_of, is_dirty, is_standing, bytes_of, fixes_of}
use Rattle.doublewrite.specs.Batches.{BatchView}
use Rattle.stored_pages.specs.Reading.{IsPageIn}
use Rattle.law_logged_pages.specs.Applied.{logical}
use Rattle.law_logged_pages.specs.Stages.{SameButSum}
use Rattle.law_logged_pages.specs.Keeping.{IsPlaced}
use Rattle.flusher.specs.Flushing.{HoldsRun, IsHome, IsNowhere, AreKept}
use Rattle.page_recovery.specs.Leaving.{IsFileRun, LeavesRun}
use Rattle.page_checkpoint.specs.Checkpoints.{begun}
use Rattle.page_checkpoint.specs.declared.checking.CheckpointBad.{CheckpointBad}
use Rattle.page_checkpoint.specs.declared.checking.CheckpointBad.TheVariants.{Dirty, NotFlushed, NoGroups, NoNumbers, NoMemory, Failed}
use Rattle.page_checkpoint.specs.declared.checking.NewRun.{NewRun}
use Rattle.page_checkpoint.specs.Header.{IsNextHeader}

-- Nothing is left to be flushed, the log has some group, and these are the numbers of the run after that of page 0.
pub record IsNextRun (pool : PoolView) (log : LogView) (next : NewRun) : Type 0 where
  pub clean : (page : ℕ) → is_dirty pool page ≡ false
  pub flushed : log.flushed + 1 ≡ log.next
  pub some : u64_at FIRST_LSN (bytes_of pool 0) < log.next
  pub run_is : next.run ≡ u64_at RUN (bytes_of pool 0) + 1
  pub first_is : next.first ≡ log.next + 1

-- why there is none; of want of memory and of a disk that fails nothing is said here
abbrev pub IsCause : PoolView → LogView → CheckpointBad → Type 0
IsCause pool log (Dirty page) = is_dirty pool page ≡ true
IsCause pool log NotFlushed = log.flushed + 1 ≢ log.next
IsCause pool log NoGroups = log.next ≤ u64_at FIRST_LSN (bytes_of pool 0)
IsCause pool log NoNumbers = (2 ^ 64 ≤ u64_at RUN (bytes_of pool 0) + 1) ⊎ (2 ^ 64 ≤ log.next + 1)
IsCause pool log NoMemory = Unit {0}
IsCause pool log Failed = Unit {0}

-- it isn't the disk
abbrev pub IsNoFault : CheckpointBad → Type 0
IsNoFault Failed = ⊥
IsNoFault why = Unit {0}

-- it is the disk, or memory
abbrev pub IsFailure : CheckpointBad → Type 0
IsFailure Failed = Unit {0}
IsFailure NoMemory = Unit {0}
IsFailure why = ⊥

-- where it is the disk, that has counted a fault
abbrev pub HasRisen : Past → Past → CheckpointBad → Type 0
HasRisen old new Failed = Rose old.faults new.faults
HasRisen old new why = Unit {0}

-- the disk has counted a fault, or wasn't called
abbrev pub IsFault : Past → Past → CheckpointBad → Type 0
IsFault old new Failed = Rose old.faults new.faults
IsFault old new why = new ≡ old

-- Page 0 is clean, and each other page as it was.
pub record HasHeader (old new : PoolView) : Type 0 where
  pub clean : is_dirty new 0 ≡ false
  pub standing : is_standing new 0 ≡ true
  pub fixes : fixes_of new 0 ≡ fixes_of old 0
  pub others : (page : ℕ) → page ≢ 0 → slot_of new page ≡ slot_of old page
  pub order : new.order ≡ old.order

-- page 0 as the one page of a batch
abbrev pub alone : List ℕ → BatchView
alone header = record { count = 1; bytes = header }

-- ---- the old run

-- The disk holds the run, and no batch is under way. Each page that isn't changed in the pool is in its place for good as all
-- groups have left it, or nobody has written it. Page 0 is in the pool as they have left it.
pub record HoldsAll (capacity first : ℕ) (groups : List Group) (base : ℕ → List ℕ) (pool : PoolView) (log : LogView) (s : State) : Type 0 where
  pub file : IsFileRun capacity log.run first groups base
  pub held : HoldsRun first groups base None log s
  pub each : AreKept groups base pool s
  pub header : SameButSum (bytes_of pool 0) (logical base groups (length groups) 0)

-- ---- the new run

-- At the log's beginning stands no block of that run, and what is being written there are zeros.
pub record IsUnused (run : ℕ) (log : Contents) : Type 0 where
  pub other : IsGood run 0 log.synced → ⊥
  pub later : All (λ (w : Write). (BLOCK ≤ w.at) ⊎ (w.bytes ≡ replicate (length w.bytes) 0)) log.writes

-- The disk holds a run that begins with these pages behind that LSN, and has no group. Each page is in its place for good as
-- it begins, or nobody has written it.
pub record HasBegun (capacity run last : ℕ) (base : ℕ → List ℕ) (s : State) : Type 0 where
  pub file : IsFileRun capacity run (last + 1) [] base
  pub placed : IsPlaced (last + 1) last [] base s
  pub each : (page : ℕ) → page < MOST_PAGES → IsHome page (base page) s ⊎ IsNowhere page (base page) s
  pub unused : IsUnused run s.log

-- Whatever a crash leaves now is that run.
pub record LeavesBegun (run last : ℕ) (base : ℕ → List ℕ) (s : State) : Type 0 where
  pub each : (image : Image) → IsImage s image → IsHonest s image → LeavesRun run (last + 1) last [] base image

-- Nothing but zeros stands in the log.
pub record IsCleared (log : Contents) : Type 0 where
  pub rests : log.writes ≡ []
  pub zeros : log.synced ≡ replicate (length log.synced) 0

-- Whatever a crash leaves now can be recovered: page 0 is there, and however it is read, it is the old run with all its groups,
-- or the new one without any, whose page 0 is the old one but for what it says of the run.
pub record LeavesOne (run first flushed : ℕ) (groups : List Group) (base : ℕ → List ℕ) (page : List ℕ) (s : State) : Type 0 where
  pub header : List ℕ
  pub is : IsNextHeader (first + length groups) (run + 1) (first + length groups + 1) page header
  pub found : (image : Image) → IsImage s image → IsHonest s image → IsPageIn image.pages image.double 0 None → ⊥
  pub each : (image : Image) (bytes : List ℕ) → IsImage s image → IsHonest s image → IsPageIn image.pages image.double 0 (Some bytes)
      → LeavesRun run first flushed groups base image
      ⊎ LeavesRun (run + 1) (first + length groups + 1) (first + length groups) [] (begun header base groups) image
