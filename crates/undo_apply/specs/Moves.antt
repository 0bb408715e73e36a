-- What small parts of a step leave of the room.
use Rattle.std.specs.Prelude.{◌≡◌, ◌≢◌, ◌⊎◌, ℕ, ◌+◌, ◌<◌, ◌≤◌, true, false, List, length, slice_get, Some}
use Rattle.inno_types.specs.declared.value.Schema.{Schema}
use Rattle.store_api.specs.{declared.answers.Undo.Undo, declared.answers.Version.Version, declared.moves.Move.Move}
use Rattle.store_api.specs.declared.moves.Move.TheVariants.{End, Done, Step}
use Rattle.row_codec.specs.Rows.{IsRecordOf, IsVersion}
use Rattle.secondary.specs.Entries.{HasSecondary, entry_of}
use Rattle.world.specs.State.{WorldState}
use Rattle.undo_apply.specs.{declared.work_room.WorkRoom.WorkRoom, declared.work_room.Stage.Stage}
use Rattle.undo_apply.specs.declared.work_room.Stage.TheVariants.{Find, Walk, Mark}

-- the stage is another, and that alone
abbrev pub at_stage : Stage → WorkRoom → WorkRoom
at_stage stage room = record room { stage = stage }

abbrev pub WentOn : Stage → Move → WorkRoom → WorkRoom → Move → Type 0
WentOn next Done old new result = (result ≡ Step) × (new ≡ at_stage next old)
WentOn next answer old new result = (result ≡ answer) × (new ≡ old)

abbrev pub WentOnOrEnded : Stage → Move → WorkRoom → WorkRoom → Move → Type 0
WentOnOrEnded next End old new result = (result ≡ Step) × (new ≡ at_stage next old)
WentOnOrEnded next answer old new result = WentOn next answer old new result

abbrev pub Ended : Move → WorkRoom → WorkRoom → Move → Type 0
Ended Done old new result = (result ≡ Done) × (new ≡ at_stage Find old)
Ended answer old new result = (result ≡ answer) × (new ≡ old)

-- the table has a key of this number, counted from 0
pub record HasKeyAt (state : WorldState) (table which : ℕ) : Type 0 where
  pub schema : Schema
  pub there : slice_get state.schemas table ≡ Some schema
  pub has : HasSecondary schema (which + 1)
  pub few : which < 255

-- the buffers that stay, while an entry is written
pub record IsWrittenIn (old new : WorkRoom) : Type 0 where
  pub newest : new.newest ≡ old.newest
  pub older : new.older ≡ old.older
  pub next : new.next ≡ old.next
  pub marked : new.marked ≡ old.marked
  pub unmarked : new.unmarked ≡ old.unmarked

-- The version has a row with the same entry, so that is marked; or the walk goes on behind the version.
abbrev pub LooksAt : ℕ → Version → List ℕ → List ℕ → Stage → Type 0
LooksAt which version newest entry stage =
    ((stage ≡ Mark which) × (version.marked ≡ false) × (newest ≡ entry))
    ⊎ ((stage ≡ Walk which version.pointer) × ((version.marked ≡ true) ⊎ (newest ≢ entry)))

-- The records in the buffers `newest` and `older` have one entry in a key, or not.
pub record LooksOn (state : WorldState) (undo : Undo) (which : ℕ) (old new : WorkRoom) (result : Move) : Type 0 where
  pub step : result ≡ Step
  pub buffers : IsWrittenIn old new
  pub either : (new.stage ≡ Mark which) ⊎ ((pointer : ℕ) × (new.stage ≡ Walk which pointer))
  pub stage : (schema : Schema) (newest version : Version) → slice_get state.schemas undo.table ≡ Some schema → IsVersion newest → IsVersion version
      → IsRecordOf schema newest undo.key old.newest.items → IsRecordOf schema version undo.key old.older.items
      → length (entry_of schema (which + 1) newest.row undo.key) ≤ 67 → length (entry_of schema (which + 1) version.row undo.key) ≤ 67
      → LooksAt which version (entry_of schema (which + 1) newest.row undo.key) (entry_of schema (which + 1) version.row undo.key) new.stage
