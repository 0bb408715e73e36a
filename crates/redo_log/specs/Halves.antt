-- What a log and its area stand for between the two halves of a flush: blocks are written, and wait for a sync.
use Rattle.std.specs.Prelude.{◌≡◌, ℕ, ◌+◌, ◌*◌, ◌<◌, ◌≤◌, List, ◌++◌, length, take, drop}
use Rattle.store_api.specs.Areas.{Contents, State}
use Rattle.log_format.specs.declared.block.TheConstants.{BLOCK}
use Rattle.log_format.specs.declared.group.Group.{Group}
use Rattle.log_format.specs.Group.{AreGroups}
use Rattle.log_format.specs.Block.{AreBlocks}
use Rattle.log_format.specs.Scan.{stream_of}
use Rattle.redo_log.specs.View.{LogView}
use Rattle.redo_log.specs.Logged.{IsLogged}

-- where the blocks of a write begin, how many they are, and the LSN of the last group in them
pub record WrittenView : Type 0 where
  pub block : ℕ
  pub count : ℕ
  pub last : ℕ

-- the blocks of the write are the log's first ones that wait, which are tried, and all of them unless a group was appended since
pub record IsFront (w : WrittenView) (log : LogView) : Type 0 where
  pub place : w.block ≡ log.block
  pub few : w.count ≤ log.count
  pub tried : w.count ≤ log.tried
  pub from : log.flushed ≤ w.last
  pub to : w.last < log.next
  pub all : w.last + 1 ≡ log.next → w.count ≡ log.count

-- the log as it would be without the groups behind those of the write
abbrev pub front_log : WrittenView → LogView → List ℕ → LogView
front_log w log front =
    record {
      run = log.run;
      block = log.block;
      pending = front;
      count = w.count;
      tried = w.count;
      next = w.last + 1;
      flushed = log.flushed;
      spare = 0;
    }

-- These are all the groups that the log has had. Those up to the write's last one are on the disk for good or in its
-- blocks, which a read gives; the later ones stand in the blocks behind, of which nothing was written.
pub record IsWritten (first : ℕ) (groups : List Group) (w : WrittenView) (log : LogView) (c : Contents) : Type 0 where
  pub sent : List Group
  pub later : List Group
  pub split : groups ≡ sent ++ later
  pub each : AreGroups first groups
  pub next : log.next ≡ first + length groups
  pub front : List ℕ
  pub back : List ℕ
  pub parts : log.pending ≡ front ++ back
  pub more : ℕ
  pub number : log.count ≡ w.count + more
  pub tried : w.count ≤ log.tried
  pub written : IsLogged first sent (front_log w log front) c
  pub behind : AreBlocks log.run (log.block + w.count) (stream_of later) more back
  pub seen : take (BLOCK * w.count) (drop (BLOCK * log.block) c.seen) ≡ front

-- the disk's state, where the log area and the log stand for these groups with such a write, and the other areas are these
pub record StandsWritten (first : ℕ) (groups : List Group) (w : WrittenView) (log : LogView) (double pages : Contents) (s : State) : Type 0 where
  pub log_is : IsWritten first groups w log s.log
  pub double_is : s.double ≡ double
  pub pages_is : s.pages ≡ pages
