-- What contracts see of a log.
use Rattle.std.specs.Prelude.{◌≡◌, ℕ, ◌+◌, ◌-◌, ◌*◌, ◌^◌, ◌<◌, ◌≤◌, min, List, length}
use Rattle.std.specs.List.{flat_map}
use Rattle.log_format.specs.declared.block.TheConstants.{BLOCK}
use Rattle.log_format.specs.declared.group.Record.{Record}
use Rattle.log_format.specs.Group.{record_bytes}
use Rattle.log_format.specs.Block.{blocks_for}

-- the run, the number of the first block that isn't flushed, the blocks that wait for a flush, how many they are, and how many of
-- them a write has tried, the next LSN, the last one that is flushed, and how long what waits may still become without memory
pub record LogView : Type 0 where
  pub run : ℕ
  pub block : ℕ
  pub pending : List ℕ
  pub count : ℕ
  pub tried : ℕ
  pub next : ℕ
  pub flushed : ℕ
  pub spare : ℕ

-- the log, where a write has tried all the blocks that wait
abbrev pub all_tried : LogView → LogView
all_tried log =
    record {
      run = log.run;
      block = log.block;
      pending = log.pending;
      count = log.count;
      tried = log.count;
      next = log.next;
      flushed = log.flushed;
      spare = log.spare;
    }

-- So many of the blocks that wait stay as they are where a group is appended: all that a write has tried, and all but the last.
pub record Stay (kept : ℕ) (log : LogView) : Type 0 where
  pub tried : log.tried ≤ kept
  pub few : kept ≤ log.count
  pub most : log.count ≤ kept + 1

-- how long a group of these records is in the log, where it begins a new block: 14 bytes and the records, in whole blocks
abbrev pub room_of : List Record → ℕ
room_of records = BLOCK * blocks_for (14 + length (flat_map record_bytes records))

-- for so many bytes of blocks there are numbers of blocks and of groups
abbrev pub numbers_left : ℕ → ℕ → ℕ
numbers_left block next = BLOCK * min (2 ^ 54 - block) (2 ^ 64 - 1 - next)

-- the spare, where this much may wait
abbrev pub spare_of : ℕ → ℕ → ℕ → ℕ → ℕ
spare_of room pending block next = min (room - pending) (numbers_left block next)

-- No number of a log passes its type's end, and there is room for what waits and what may still be appended.
pub record IsBounded (run block count tried next flushed room pending has_pending has_work : ℕ) : Type 0 where
  pub run_fits : run < 2 ^ 64
  pub blocks : block + count ≤ 2 ^ 54
  pub tries : tried ≤ count
  pub lsns : next < 2 ^ 64
  pub begun : flushed < next
  pub waits : pending ≤ room
  pub whole : pending ≡ BLOCK * count
  pub none_waits : flushed + 1 ≡ next → pending ≡ 0
  pub room_fits : room < 2 ^ 32
  pub room_pending : room ≤ has_pending
  pub room_work : room ≤ has_work
