-- What a change of a row needs to know before it begins, and what a step of it makes of a store.
use Rattle.std.specs.Prelude.{◌≡◌, ℕ, ◌+◌, ◌<◌, ◌∷◌, map, slice_get, Some, None, List, length}
use Rattle.row_changes.specs.Reached.{Reached, Went, Done, Hindered}
use Rattle.row_changes.specs.Rows.{row_steps, table_of, row_after, primary_of}
use Rattle.row_changes.specs.declared.row_change.RowChange.TheVariants.{Record, Keys}
use Rattle.row_changes.specs.{declared.row_change.RowChange.RowChange, declared.record_change.RecordStage.TheVariants.Enter, declared.row_edit.RowEdit.RowEdit}
use Rattle.desks.specs.declared.desk.Doing.TheVariants.{Nothing, Changing, Lagging}
use Rattle.desks.specs.{Desks.Store, Desks.with_doing, declared.desk.Doing.Doing, Shown.change_in, Undoing.keys_if, Holding.IsHeld, Holding.IsLast}
use Rattle.world.specs.State.{WorldState, Session, Logged}
use Rattle.inno_db.specs.declared.change.Change.{Change}
use Rattle.inno_model.specs.declared.event.Event.TheVariants.{Changed}
use Rattle.shared_lists.specs.{Steps.rows_of_change, Steps.TakesBack, State.Lists, Answers.Undone}
use Rattle.inno_types.specs.{declared.value.Column.Column, declared.value.Schema.Schema}
use Rattle.key_codec.specs.Keys.{IsOfKind, key_code}
use Rattle.store_api.specs.{declared.answers.Undo.Undo, declared.moves.Move.Move}
use Rattle.row_versions.specs.{declared.place.Place.Place, Chains.Chains}
use Rattle.law_stored_rows.specs.Tables.{Said}
use Rattle.undo_apply.specs.{declared.work_room.WorkRoom.WorkRoom, Stages.IsPuttingBack, Stages.PutsBack}
use Rattle.sql_history.specs.Settings.{Setting}

-- what is left of a change that is given up: one that the history tells is to be taken back; one that it doesn't tell was
-- never made
abbrev pub given_up : RowChange → Doing
given_up (Record change key after) = Nothing
given_up (Keys change) = Lagging

-- names, tables and settings are as they were
pub record LeavesLists (old new : WorldState) : Type 0 where
  pub names : new.names ≡ old.names
  pub schemas : new.schemas ≡ old.schemas
  pub settings : map (λ (session : Session). session.setting) new.sessions ≡ map (λ (session : Session). session.setting) old.sessions

-- no entry has come
pub record AddsNothing (old new : WorldState) : Type 0 where
  pub past : new.past ≡ old.past
  pub rows : new.rows ≡ old.rows

-- the same part of the same change, some steps nearer
pub record IsNearer (old new : WorldState) (change next : RowChange) : Type 0 where
  pub adds : AddsNothing old new
  pub change_is : change_in next ≡ change_in change
  pub nears : row_steps (keys_if (slice_get new.schemas (table_of next))) next < row_steps (keys_if (slice_get old.schemas (table_of change))) change

-- the history tells the change now
pub record IsEntered (s : ℕ) (old new : WorldState) (change next : RowChange) : Type 0 where
  pub entry : Change
  pub was : change_in change ≡ Some entry
  pub is : change_in next ≡ None
  pub past : new.past ≡ Changed s entry ∷ old.past
  pub rows : new.rows ≡ old.rows + rows_of_change (Some entry)

-- the keys come after the record
abbrev pub Nears : ℕ → WorldState → WorldState → RowChange → RowChange → Type 0
Nears s old new (Record change key after) (Record next key' after') = IsNearer old new (Record change key after) (Record next key' after')
Nears s old new (Record change key after) (Keys next) = IsEntered s old new (Record change key after) (Keys next)
Nears s old new (Keys change) (Record next key after) = ⊥
Nears s old new (Keys change) (Keys next) = IsNearer old new (Keys change) (Keys next)

-- what is under way after a step that came so far
abbrev pub doing_after : RowChange → Reached RowChange → Doing
doing_after change (Went next) = Changing next
doing_after change Done = Nothing
doing_after change (Hindered same why) = given_up change

-- how far a step came, for who keeps the change
abbrev pub Comes : ℕ → WorldState → WorldState → RowChange → Reached RowChange → Type 0
Comes s old new change (Went next) = Nears s old new change next
Comes s old new change Done = AddsNothing old new × (change_in change ≡ None)
Comes s old new change (Hindered same why) = AddsNothing old new × (same ≡ change)

-- the store once a step of the session's change came so far
abbrev pub made_to : ℕ → Store → WorldState → RowChange → Reached RowChange → Store
made_to s store new change reached = record store { world = new; desks = with_doing s (doing_after change reached) store.desks }

-- The store holds with what is left of the change.
pub record MakesChange (s : ℕ) (store : Store) (new : WorldState) (change : RowChange) (reached : Reached RowChange) : Type 0 where
  pub held : IsHeld (made_to s store new change reached)
  pub leaves : LeavesLists store.world new
  pub comes : Comes s store.world new change reached

-- ---- What a change of a row needs to know before it begins, and what it is then.

-- The table is there, and its primary column, of whose kind the row's key is.
pub record IsEditable (state : WorldState) (table : ℕ) (edit : RowEdit) : Type 0 where
  pub within : table < length state.schemas
  pub schema : Schema
  pub there : slice_get state.schemas table ≡ Some schema
  pub column : Column
  pub primary : slice_get schema.columns schema.primary ≡ Some column
  pub of_kind : IsOfKind column.kind (primary_of schema edit)

-- the bytes are the key of the row
abbrev pub IsKeyOfEdit : Schema → RowEdit → List ℕ → Type 0
IsKeyOfEdit schema edit key = (column : Column) → slice_get schema.columns schema.primary ≡ Some column → key ≡ key_code column.kind (primary_of schema edit)

-- a change that has done nothing yet
abbrev pub begun : ℕ → RowEdit → List ℕ → RowChange
begun table edit key = Record (record { table = table; edit = edit; key = key; stage = Enter }) key (row_after edit)

-- ---- Which sessions may take their newest change back, what the world answers them, and what callers see of it.

-- the session's newest change is one of a row, and its undo record is the newest of its log
abbrev pub HasLast : ℕ → WorldState → Type 0
HasLast s state = (logged : Logged) × (place : Place) × IsLast state s logged place

-- what a step of putting back answered, whichever rows and place there were, and whatever keys said beside it
abbrev pub HasPutBack : ℕ → Undo → WorkRoom → WorkRoom → WorldState → WorldState → Move → Type 0
HasPutBack s undo room next old new answer =
    (chains : Chains) (beside : Said) (place : Place) → IsPuttingBack chains beside place undo room old
    → PutsBack chains beside place s undo room next old new answer

-- ---- what callers see

-- One step, by its answer. What sessions have set and the count of rows are as they were.
pub record TakesBackIn (s keep : ℕ) (old new : Lists) (answer : Undone) : Type 0 where
  pub takes : TakesBack s keep old.state new.state answer
  pub settings : new.settings ≡ old.settings
  pub rows : new.rows ≡ old.rows

-- what its sessions have set
abbrev pub settings_of : List Session → List Setting
settings_of sessions = map (λ (session : Session). session.setting) sessions
