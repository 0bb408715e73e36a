-- What is known of a whole change of a row between its steps, and what each step does.
use Rattle.std.specs.Prelude.{◌≡◌, ℕ, ◌+◌, ◌-◌, ◌*◌, ◌<◌, List, length, slice_get, Option, None, Some}
use Rattle.inno_types.specs.{declared.value.Value.Value, declared.value.Schema.Schema}
use Rattle.inno_db.specs.Database.{key_of}
use Rattle.store_api.specs.declared.moves.Move.{Move}
use Rattle.row_versions.specs.{declared.place.Place.Place, Chains.Chains, Chains.Pushes}
use Rattle.law_stored_rows.specs.Tables.{Said, what_is_there}
use Rattle.world.specs.State.{WorldState, Session, Work, HasWork}
use Rattle.row_changes.specs.{declared.row_edit.RowEdit.RowEdit, declared.row_edit.RowEdit.TheVariants.Put, declared.row_edit.RowEdit.TheVariants.Remove}
use Rattle.row_changes.specs.{declared.record_change.RecordChange.RecordChange, declared.row_change.RowChange.RowChange, Reached.Reached}
use Rattle.row_changes.specs.{Pairs.RowsStay, Asides.StepsAside, Told.HasRowsAt, Keys.IsChangingKeys, Keys.GoesOnWithKeys, Keys.HindersKeys, Keys.keys_steps}
use Rattle.row_changes.specs.declared.row_change.RowChange.TheVariants.{Record, Keys}
use Rattle.row_changes.specs.Reached.{Went, Done, Hindered}
use Rattle.row_changes.specs.Records.{IsTable, IsChangingRecord, GoesOnWithRecord, HindersRecord, ChangesRecord, record_steps, id_for}
use Rattle.row_changes.specs.RecordReached as records

-- the row that readers of the newest rows find after it
abbrev pub row_after : RowEdit → Option (List Value)
row_after (Put row) = Some row
row_after (Remove value) = None

-- the value of the primary key
abbrev pub primary_of : Schema → RowEdit → Value
primary_of schema (Put row) = key_of schema row
primary_of schema (Remove value) = value

-- the place of the row
abbrev pub place_of : Schema → RecordChange → Place
place_of schema change = record { table = change.table; key = primary_of schema change.edit }

-- The place of the row has a newer version now, which the session's transaction wrote, and each other place has what it had.
pub record PushesEdit (s : ℕ) (change : RecordChange) (state : WorldState) (before after : Chains) : Type 0 where
  pub schema : Schema
  pub there : slice_get state.schemas change.table ≡ Some schema
  pub session : Session
  pub work : Work
  pub has_work : HasWork s session work state
  pub pushes : Pushes before after (place_of schema change) (record { writer = id_for work.id state.txns.next; row = row_after change.edit })

-- Before the record, the indexes are the rows before; then keys take over what was pushed. Of all places but that of the
-- change, the keys say what is said beside it.
abbrev pub IsChangingRow : ℕ → Chains → Said → WorldState → RowChange → Type 0
IsChangingRow s chains beside state (Record change key after) =
    IsChangingRecord s state change × HasRowsAt chains beside change.table change.key state × (key ≡ change.key) × (after ≡ row_after change.edit)
IsChangingRow s chains beside state (Keys change) = IsChangingKeys chains beside state change

-- The same while no other change is under way: of all other places the keys say what is there.
abbrev pub IsChangingRowAlone : ℕ → Chains → WorldState → RowChange → Type 0
IsChangingRowAlone s chains state change = IsChangingRow s chains (what_is_there chains) state change

-- how many steps are left at most, where the table has so many keys
abbrev pub row_steps : ℕ → RowChange → ℕ
row_steps keys (Record change key after) = 4 * keys + record_steps change.stage
row_steps keys (Keys change) = keys_steps (keys - change.which) change.put

-- one of the two parts has gone on; or the version stands, the history tells it, and the keys come next
abbrev pub GoesOnWithRow : ℕ → Chains → Said → WorldState → WorldState → RowChange → RowChange → Type 0
GoesOnWithRow s chains beside old new (Record change key after) (Record next key' after') =
    GoesOnWithRecord s old new change next × IsChangingRow s chains beside new (Record next key' after')
GoesOnWithRow s chains beside old new (Record change key after) (Keys next) =
    ChangesRecord s old new change (records.Recorded next.before) ×
    ((pushed : Chains) → PushesEdit s change old chains pushed → IsChangingKeys pushed beside new next) ×
    (next.table ≡ change.table) × (next.key ≡ change.key)
GoesOnWithRow s chains beside old new (Keys change) (Record next key after) = ⊥
GoesOnWithRow s chains beside old new (Keys change) (Keys next) = GoesOnWithKeys chains beside old new change next

-- why neither has gone on
abbrev pub HindersRow : ℕ → WorldState → WorldState → RowChange → Move → Type 0
HindersRow s old new (Record change key after) why =
    StepsAside s old new × (schema : Schema) × IsTable change.table schema old × HindersRecord s change schema old new why
HindersRow s old new (Keys change) why = RowsStay old new × HindersKeys s old new change why

-- the table of the change
abbrev pub table_of : RowChange → ℕ
table_of (Record change key after) = change.table
table_of (Keys change) = change.table

-- The last step leaves the indexes as the rows that are there now, and of the place of the change the keys say so.
abbrev pub ChangesRow : ℕ → Chains → Said → WorldState → WorldState → RowChange → Reached RowChange → Type 0
ChangesRow s chains beside old new change (Went next) =
    GoesOnWithRow s chains beside old new change next ×
    ((schema : Schema) → slice_get old.schemas (table_of change) ≡ Some schema → row_steps (length schema.keys) next < row_steps (length schema.keys)
    change)
ChangesRow s chains beside old new (Record change key after) Done = ⊥
ChangesRow s chains beside old new (Keys change) Done = RowsStay old new × HasRowsAt chains beside change.table change.key new
ChangesRow s chains beside old new change (Hindered same why) =
    (same ≡ change) × IsChangingRow s chains beside new change × HindersRow s old new change why

-- the same while no other change is under way
abbrev pub ChangesRowAlone : ℕ → Chains → WorldState → WorldState → RowChange → Reached RowChange → Type 0
ChangesRowAlone s chains old new change reached = ChangesRow s chains (what_is_there chains) old new change reached

-- ---- while others are at work, too

-- What is known between the steps, whatever others do at other places, and at this one before its record: what keys say of it is known
-- from its record on.
abbrev pub IsAtRow : ℕ → Chains → Said → WorldState → RowChange → Type 0
IsAtRow s chains beside state (Record change key after) = IsChangingRecord s state change × (key ≡ change.key) × (after ≡ row_after change.edit)
IsAtRow s chains beside state (Keys change) = IsChangingKeys chains beside state change

-- what has to be known of the rows where the record is put
abbrev pub RowsBefore : Chains → Said → WorldState → RowChange → Type 0
RowsBefore chains beside state (Record change key after) = HasRowsAt chains beside change.table change.key state
RowsBefore chains beside state (Keys change) = Unit {0}

abbrev pub MovesRow : ℕ → Chains → Said → WorldState → WorldState → RowChange → RowChange → Type 0
MovesRow s chains beside old new (Record change key after) (Record next key' after') =
    GoesOnWithRecord s old new change next × IsAtRow s chains beside new (Record next key' after')
MovesRow s chains beside old new (Record change key after) (Keys next) =
    ChangesRecord s old new change (records.Recorded next.before) ×
    (HasRowsAt chains beside change.table change.key old → (pushed : Chains) → PushesEdit s change old chains pushed → IsChangingKeys pushed beside new next) ×
    (next.table ≡ change.table) × (next.key ≡ change.key)
MovesRow s chains beside old new (Keys change) (Record next key after) = ⊥
MovesRow s chains beside old new (Keys change) (Keys next) = GoesOnWithKeys chains beside old new change next

-- `ChangesRow`, where the rows before are asked for by the step alone that puts the record
abbrev pub MakesRow : ℕ → Chains → Said → WorldState → WorldState → RowChange → Reached RowChange → Type 0
MakesRow s chains beside old new change (Went next) =
    MovesRow s chains beside old new change next ×
    ((schema : Schema) → slice_get old.schemas (table_of change) ≡ Some schema → row_steps (length schema.keys) next < row_steps (length schema.keys)
    change)
MakesRow s chains beside old new (Record change key after) Done = ⊥
MakesRow s chains beside old new (Keys change) Done = RowsStay old new × HasRowsAt chains beside change.table change.key new
MakesRow s chains beside old new change (Hindered same why) =
    (same ≡ change) × IsAtRow s chains beside new change × HindersRow s old new change why
