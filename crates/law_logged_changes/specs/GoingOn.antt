-- What a step of a change makes of a world that agrees with its past.
use Rattle.std.specs.Prelude.{◌≡◌, ◌≢◌, ℕ, ◌+◌, List, ◌∷◌, length, slice_get, Some}
use Rattle.inno_types.specs.declared.value.Schema.{Schema}
use Rattle.inno_model.specs.declared.event.Event.TheVariants.{Changed}
use Rattle.row_versions.specs.Chains.{Chains}
use Rattle.law_stored_rows.specs.{Records.KeepsMore, Tables.Said}
use Rattle.world.specs.State.{WorldState, Session, Work, HasWork}
use Rattle.law_world_agreement.specs.Agreement.{Agrees}
use Rattle.row_changes.specs.{declared.record_change.RecordChange.RecordChange, declared.keys_change.KeysChange.KeysChange, Reached.Reached, Reached.Went}
use Rattle.row_changes.specs.{Reached.Done, Reached.Hindered, declared.row_change.RowChange.RowChange, Edits.change_of, Edits.rows_put, Told.HasRowsAt}
use Rattle.row_changes.specs.{Rows.PushesEdit, Rows.IsChangingRow, Rows.place_of, Rows.table_of, declared.row_change.RowChange.TheVariants.Record}
use Rattle.row_changes.specs.{declared.row_change.RowChange.TheVariants.Keys}
use Rattle.law_logged_changes.specs.Logs.{IsAloneAt}

-- ---- what is kept beside

-- The session has its transaction still. Where no entry has come, all of the transaction is as it was.
pub record StaysOpen (s : ℕ) (session : Session) (work : Work) (old new : WorldState) : Type 0 where
  pub session_now : Session
  pub work_now : Work
  pub has : HasWork s session_now work_now new
  pub setting : session_now.setting ≡ session.setting
  pub can_reply : session_now.can_reply ≡ session.can_reply
  pub can_ack : session_now.can_ack ≡ session.can_ack
  pub txn : work_now.txn ≡ work.txn
  pub level : work_now.level ≡ work.level
  pub view : work_now.view ≡ work.view
  pub can_end : work_now.can_end ≡ work.can_end
  pub same : new.past ≡ old.past → work_now ≡ work

-- Names, tables, other sessions and the places of all actors are as they were, and what was kept behind roll pointers is
-- kept.
pub record KeepsBeside (s : ℕ) (old new : WorldState) : Type 0 where
  pub names : new.names ≡ old.names
  pub schemas : new.schemas ≡ old.schemas
  pub others : (t : ℕ) → t ≢ s → slice_get new.sessions t ≡ slice_get old.sessions t
  pub count : length new.sessions ≡ length old.sessions
  pub places : (index : ℕ) → (new.indexes index).place ≡ (old.indexes index).place
  pub kept : KeepsMore old.versions.kept_at new.versions.kept_at
  pub own : (session : Session) (work : Work) → HasWork s session work old → StaysOpen s session work old new

-- ---- how far a step came

-- no other session has changes of the row, where the history doesn't tell the change yet
abbrev pub IsAloneIn : ℕ → WorldState → RowChange → Type 0
IsAloneIn s state (Record change key after) =
    (schema : Schema) → slice_get state.schemas change.table ≡ Some schema → IsAloneAt (place_of schema change) s state
IsAloneIn s state (Keys change) = Unit {0}

-- the key of the row's record
abbrev pub key_of : RowChange → List ℕ
key_of (Record change key after) = change.key
key_of (Keys change) = change.key

-- no entry has come, and this is known of the rows and of what is left of the change
pub record StaysAgreed (s : ℕ) (chains : Chains) (old new : WorldState) (known : Type 0) : Type 0 where
  pub agrees : Agrees chains new
  pub holds : known
  pub past : new.past ≡ old.past
  pub rows : new.rows ≡ old.rows
  pub txns : new.txns ≡ old.txns
  pub beside : KeepsBeside s old new

-- the row has its new version, the history tells the change, and this is left of it
pub record EntersAgreed (s : ℕ) (chains : Chains) (said : Said) (old new : WorldState) (change : RecordChange) (next : KeysChange) : Type 0 where
  pub after : Chains
  pub pushes : PushesEdit s change old chains after
  pub agrees : Agrees after new
  pub changing : IsChangingRow s after said new (Keys next)
  pub past : new.past ≡ Changed s (change_of change.table change.edit) ∷ old.past
  pub rows : new.rows ≡ old.rows + rows_put change.edit
  pub beside : KeepsBeside s old new

-- What a step that came so far makes of a world whose rows were these, while keys say this of all other places. Once the change is
-- over they say what is there of its place.
abbrev pub GoesOnAgreed : ℕ → Chains → Said → WorldState → WorldState → RowChange → Reached RowChange → Type 0
GoesOnAgreed s chains said old new (Record change key after) (Went (Keys next)) = EntersAgreed s chains said old new change next
GoesOnAgreed s chains said old new (Keys change) (Went (Record next key after)) = ⊥
GoesOnAgreed s chains said old new change (Went next) = StaysAgreed s chains old new (IsChangingRow s chains said new next)
GoesOnAgreed s chains said old new change Done = StaysAgreed s chains old new (HasRowsAt chains said (table_of change) (key_of change) new)
GoesOnAgreed s chains said old new change (Hindered same why) = (same ≡ change) × StaysAgreed s chains old new (IsChangingRow s chains said new same)
