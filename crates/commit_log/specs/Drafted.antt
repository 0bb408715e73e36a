-- The bytes that a draft keeps, and the changes that they stand for.
use Rattle.std.specs.Prelude.{◌≡◌, ℕ, ◌+◌, ◌*◌, ◌^◌, ◌<◌, ◌≤◌, Bool, true, List, [], ◌∷◌, ◌++◌, length, Option, Some, None}
use Rattle.std.specs.List.{AllByRecursion}
use Rattle.log_format.specs.declared.block.TheConstants.{BLOCK}
use Rattle.inno_db.specs.declared.change.Change.{Change}
use Rattle.schema_codec.specs.Reading.{list_at}
use Rattle.log_format.specs.declared.group.Record.{Record}
use Rattle.log_format.specs.Group.{IsRecord}
use Rattle.log_format.specs.Block.{blocks_for}
use Rattle.log_format.specs.Reading.{record_at}
use Rattle.law_crashes.specs.Records.{record_of, changes_of}
use Rattle.commit_log.specs.DraftsView.{bytes_of}
use Rattle.commit_log.specs.declared.room.TheConstants.{MOST_RECORD}

abbrev pub told : Option (List Record × List ℕ) → List Change
told None = []
told (Some read) = changes_of read.0

-- the changes that so many records tell
abbrev pub drafted : ℕ → List ℕ → List Change
drafted count bytes = told (list_at record_at count bytes)

-- where the record of each change begins, that of the oldest first
abbrev pub starts_of : List Change → List ℕ
starts_of [] = []
starts_of (change ∷ earlier) = starts_of earlier ++ length (bytes_of earlier) ∷ []

-- There is room for one change more, in the draft and in what was promised.
pub record HasRoom (bytes changes promised has_bytes has_starts : ℕ) : Type 0 where
  pub few : changes + 1 < 2 ^ 16
  pub bytes_fit : bytes + MOST_RECORD ≤ has_bytes
  pub starts_fit : changes + 1 ≤ has_starts
  pub promise : BLOCK * blocks_for (14 + bytes + MOST_RECORD) ≤ promised

-- The bytes spell the changes, and what was promised holds them.
pub record IsDraft (changes : List Change) (bytes starts : List ℕ) (ready : Bool) (promised has_bytes has_starts : ℕ) : Type 0 where
  pub each : AllByRecursion (λ change. IsRecord (record_of change)) changes
  pub bytes_are : bytes ≡ bytes_of changes
  pub starts_are : starts ≡ starts_of changes
  pub few : length changes < 2 ^ 16
  pub fits : promised < 2 ^ 32
  pub promise : 0 < length changes → BLOCK * blocks_for (14 + length bytes) ≤ promised
  pub room : ready ≡ true → HasRoom (length bytes) (length changes) promised has_bytes has_starts
