-- What is known of a record that is being changed between its steps, and what each step does.
use Rattle.std.specs.Prelude.{ℕ, List, Result, Ok, Err, ◌≡◌, ◌≢◌, ◌⊎◌, ◌+◌, ◌-◌, ◌^◌, ◌<◌, ◌≤◌, ◌==◌, if◌then◌else◌, true, false, [], ◌∷◌, length, slice_get}
use Rattle.std.specs.Prelude.{Option, None, Some}
use Rattle.inno_types.specs.{declared.value.Schema.Schema, declared.value.Value.Value}
use Rattle.store_api.specs.{declared.answers.Version.Version, declared.moves.Move.Move, declared.answers.Undo.Undo}
use Rattle.store_api.specs.declared.moves.Move.TheVariants.{Bad, NoMemory, Done, End}
use Rattle.row_codec.specs.Rows.{IsRecordOf, version_code}
use Rattle.law_stored_rows.specs.{Records.IsCodeOf, Records.row_shown, Storable.IsStorable, Edits.clustered_index, Edits.with_value}
use Rattle.inno_db.specs.declared.change.Change.{Change}
use Rattle.inno_model.specs.declared.event.Event.TheVariants.{Changed}
use Rattle.entries.specs.{Pairs.value_of, Index.Index, Index.Told, Index.Goes, Index.AreKept}
use Rattle.txn_table.specs.Txns.{Txns, is_there, id_at, with_id}
use Rattle.world.specs.{State.WorldState, State.Session, State.Work, State.Logged, State.HasWork, Stores.StoreGoes, Indexes.KeepsIf, Undoing.MakesRoom}
use Rattle.row_changes.specs.{declared.record_change.RecordChange.RecordChange, RecordReached.RecordReached, Asides.StepsAside}
use Rattle.row_changes.specs.{declared.record_change.RecordStage.RecordStage, declared.row_edit.RowEdit.RowEdit, Entries.IsThere, Pairs.HindersBehind}
use Rattle.row_changes.specs.{Pairs.IsReached, Pairs.RowsStay}
use Rattle.row_changes.specs.RecordReached.{Went, Recorded, Hindered}
use Rattle.row_changes.specs.declared.row_edit.RowEdit.TheVariants.{Put, Remove}
use Rattle.row_changes.specs.declared.record_change.RecordStage.TheVariants.{Enter, Room, Find, Replace}
use Rattle.row_changes.specs.Edits.{change_of, rows_put, FitsEdit, IsPut, FindsRow, version_by, LacksRow}

-- the version is that of the bytes, or none is, or memory ran out
abbrev pub Decodes : Schema → List ℕ → List ℕ → Result Version Move → Type 0
Decodes schema key bytes (Ok version) = IsCodeOf schema key bytes version
Decodes schema key bytes (Err NoMemory) = Unit {0}
Decodes schema key bytes (Err (Bad page rule)) = (version : Version) → IsRecordOf schema version key bytes → ⊥
Decodes schema key bytes (Err other) = ⊥

-- ---- what is known of a record that is being changed between its steps, and what each step does

-- the longest undo record: seven bytes, a key and a value
abbrev pub most_undo_bytes : ℕ
most_undo_bytes = 1098

-- the table is there, and can be stored
pub record IsTable (table : ℕ) (schema : Schema) (state : WorldState) : Type 0 where
  pub there : slice_get state.schemas table ≡ Some schema
  pub storable : IsStorable schema

-- The session's open transaction is the one of its number, and has its id in the table of transactions.
pub record IsListed (s : ℕ) (work : Work) (state : WorldState) : Type 0 where
  pub there : is_there work.txn state.txns.open_txns
  pub id : id_at work.txn state.txns.open_txns ≡ work.id
  pub few : state.txns.next < 2 ^ 64 - 1
  pub alone : (t : ℕ) (session : Session) (other : Work) → HasWork t session other state → other.txn ≡ work.txn → t ≡ s

-- the history has room for the change, and the log for its undo record, to which a pointer leads
pub record HasRoom (session : Session) : Type 0 where
  pub entry : session.can_change ≡ true
  pub leads : session.next_pointer ≢ 0
  pub undo : most_undo_bytes ≤ session.undo_room

-- the bytes of the key's record are these, and this version's
pub record IsFormer (schema : Schema) (key bytes : List ℕ) (before : Version) (index : Index) : Type 0 where
  pub there : Told (λ pairs. value_of key pairs ≡ Some bytes) index
  pub code_is : IsCodeOf schema key bytes before

abbrev pub StageHolds : RecordStage → Schema → RowEdit → List ℕ → Session → Index → Type 0
StageHolds Enter schema edit key session index = Unit {0}
StageHolds Room schema edit key session index = session.can_change ≡ true
StageHolds Find schema edit key session index = HasRoom session
StageHolds (Replace before bytes) schema edit key session index = HasRoom session × FindsRow edit before × IsFormer schema key bytes before index

pub record IsChangingRecord (s : ℕ) (state : WorldState) (change : RecordChange) : Type 0 where
  pub schema : Schema
  pub table : IsTable change.table schema state
  pub fits : FitsEdit schema change.edit change.key
  pub session : Session
  pub work : Work
  pub has_work : HasWork s session work state
  pub listed : IsListed s work state
  pub small : work.id < 2 ^ 64
  pub stage : StageHolds change.stage schema change.edit change.key session (state.indexes (clustered_index change.table))

-- how many steps are left at most
abbrev pub record_steps : RecordStage → ℕ
record_steps Enter = 4
record_steps Room = 3
record_steps Find = 2
record_steps (Replace before bytes) = 1

-- The step has begun at one world, has seen there that the place has no record, and is at another by calls that change nothing.
pub record IsMissing (s : ℕ) (change : RecordChange) (start state : WorldState) : Type 0 where
  pub changing : IsChangingRecord s start change
  pub stage_is : change.stage ≡ Find
  pub absent : Told (λ pairs. value_of change.key pairs ≡ None) (start.indexes (clustered_index change.table))
  pub stays : RowsStay start state
  pub reached : IsReached s (start.indexes (clustered_index change.table)) (state.indexes (clustered_index change.table))

-- the same record, some steps nearer
pub record GoesOnWithRecord (s : ℕ) (old new : WorldState) (change next : RecordChange) : Type 0 where
  pub aside : StepsAside s old new
  pub table_is : next.table ≡ change.table
  pub edit_is : next.edit ≡ change.edit
  pub key_is : next.key ≡ change.key
  pub holds : IsChangingRecord s new next
  pub nears : record_steps next.stage < record_steps change.stage

-- ---- the change itself

-- the id that a transaction writes with: its own, or the next one
abbrev pub id_for : ℕ → ℕ → ℕ
id_for own next = if own == 0 then next else own

abbrev pub txns_with_id : Work → Txns → Txns
txns_with_id work txns = if work.id == 0 then record txns { open_txns = with_id work.txn txns.next txns.open_txns; next = txns.next + 1 } else txns

-- the transaction has one change more, and its undo record
pub record HasChanged (before after : Work) (id : ℕ) (logged : Logged) : Type 0 where
  pub txn : after.txn ≡ before.txn
  pub level : after.level ≡ before.level
  pub view : after.view ≡ before.view
  pub can_end : after.can_end ≡ before.can_end
  pub own : after.own ≡ before.own + 1
  pub id_is : after.id ≡ id
  pub log : after.log ≡ logged ∷ before.log

-- the session has its transaction with a change more
pub record ChangesWork (s : ℕ) (logged_undo : Undo) (old new : WorldState) : Type 0 where
  pub session : Session
  pub work : Work
  pub had : HasWork s session work old
  pub session_now : Session
  pub work_now : Work
  pub has : HasWork s session_now work_now new
  pub changed : HasChanged work work_now (id_for work.id old.txns.next) (record { pointer = session.next_pointer; undo = logged_undo })
  pub setting : session_now.setting ≡ session.setting
  pub can_reply : session_now.can_reply ≡ session.can_reply
  pub can_ack : session_now.can_ack ≡ session.can_ack
  pub others : (t : ℕ) → t ≢ s → slice_get new.sessions t ≡ slice_get old.sessions t
  pub count : length new.sessions ≡ length old.sessions
  pub txns : new.txns ≡ txns_with_id work old.txns
  pub versions : KeepsIf (logged_undo.kind == 2) old.schemas session.next_pointer logged_undo old.versions new.versions

-- A version is the newest of its row now: its record stands, what it replaced is kept, and the history says so. No actor's
-- place has changed.
pub record Records (s : ℕ) (change : Change) (rows : ℕ) (table : ℕ) (key bytes : List ℕ) (undo : Undo) (old new : WorldState) : Type 0 where
  pub here : Goes (λ before after. after ≡ with_value key (Some bytes) before) (old.indexes (clustered_index table)).pairs
      (new.indexes (clustered_index table)).pairs
  pub elsewhere : (other : ℕ) → other ≢ clustered_index table → AreKept (old.indexes other).pairs (new.indexes other).pairs
  pub places : (index : ℕ) → (new.indexes index).place ≡ (old.indexes index).place
  pub work : ChangesWork s undo old new
  pub rest : new ≡ record old {
    past = Changed s change ∷ old.past;
    rows = old.rows + rows;
    indexes = new.indexes;
    versions = new.versions;
    paged = new.paged;
    sessions = new.sessions;
    txns = new.txns;
  }
  pub later : StoreGoes old.paged new.paged

-- a record that replaces none: its undo record tells of a new row
abbrev pub undo_of_new : ℕ → List ℕ → Undo
undo_of_new table key = record { kind = 1; table = table; key = key; value = [] }

-- a record that replaces another: its undo record keeps that one
abbrev pub undo_of_former : ℕ → List ℕ → List ℕ → Undo
undo_of_former table key bytes = record { kind = 2; table = table; key = key; value = bytes }

-- The new version stands as these bytes, the undo record keeps what was there, and the history tells the change.
abbrev pub RecordsEdit : ℕ → RecordChange → Schema → List Value → ℕ → ℕ → Undo → WorldState → WorldState → Type 0
RecordsEdit s change schema former writer pointer undo old new =
    Records s (change_of change.table change.edit) (rows_put change.edit) change.table change.key
    (version_code schema (version_by change.edit former writer pointer)) undo old new

-- where there was no record
pub record PutsFirst (s : ℕ) (old new : WorldState) (change : RecordChange) (schema : Schema) : Type 0 where
  pub session : Session
  pub work : Work
  pub had : HasWork s session work old
  pub is_put : IsPut change.edit
  pub absent : IsThere false change.key (old.indexes (clustered_index change.table))
  pub records : RecordsEdit s change schema [] (id_for work.id old.txns.next) 0 (undo_of_new change.table change.key) old new

-- where there was one
pub record PutsOver (s : ℕ) (old new : WorldState) (change : RecordChange) (schema : Schema) (former : Version) : Type 0 where
  pub session : Session
  pub work : Work
  pub had : HasWork s session work old
  pub bytes : List ℕ
  pub leads : session.next_pointer ≢ 0
  pub small : session.next_pointer < 2 ^ 64
  pub finds : FindsRow change.edit former
  pub was : IsFormer schema change.key bytes former (old.indexes (clustered_index change.table))
  pub records : RecordsEdit s change schema former.row (id_for work.id old.txns.next) session.next_pointer (undo_of_former change.table change.key bytes) old
      new

-- the row that readers of the newest rows found there before
abbrev pub PutsVersion : ℕ → WorldState → WorldState → RecordChange → Schema → Option (List Value) → Type 0
PutsVersion s old new change schema before =
    (PutsFirst s old new change schema × (before ≡ None)) ⊎
    ((former : Version) × PutsOver s old new change schema former × (before ≡ row_shown former.marked former.row))

-- no version of the table has the bytes of this record
abbrev pub IsSpoiled : Schema → List ℕ → Index → Type 0
IsSpoiled schema key index =
    Told (λ pairs. (bytes : List ℕ) × (value_of key pairs ≡ Some bytes) × ((version : Version) → IsRecordOf schema version key bytes → ⊥)) index

-- Why the change has not gone on: a call of its index, or one that makes room for its undo record, was hindered; or the
-- record that is there is none of the table's; or a row that is to be removed isn't there.
abbrev pub HindersRecord : ℕ → RecordChange → Schema → WorldState → WorldState → Move → Type 0
HindersRecord s change schema old new why =
    HindersBehind s (old.indexes (clustered_index change.table)) (new.indexes (clustered_index change.table)) why
    ⊎ ((why ≢ Done) × MakesRoom s most_undo_bytes old new why)
    ⊎ IsSpoiled schema change.key (old.indexes (clustered_index change.table))
    ⊎ LacksRow change.edit schema change.key (old.indexes (clustered_index change.table)) why

abbrev pub ChangesRecord : ℕ → WorldState → WorldState → RecordChange → RecordReached → Type 0
ChangesRecord s old new change (Went next) = GoesOnWithRecord s old new change next
ChangesRecord s old new change (Recorded before) = (schema : Schema) × IsTable change.table schema old × PutsVersion s old new change schema before
ChangesRecord s old new change (Hindered same why) =
    (same ≡ change) × StepsAside s old new × IsChangingRecord s new change × (schema : Schema) × IsTable change.table schema old × HindersRecord s change
    schema old new why

-- ---- what was found

-- the place has a record: a row may be put over it, and removed where it isn't marked
abbrev pub when_found : RowEdit → Version → List ℕ → RecordChange → RecordReached
when_found (Put row) before bytes change = Went (record change { stage = Replace before bytes })
when_found (Remove value) before bytes change = if before.marked then Hindered change End else Went (record change { stage = Replace before bytes })

-- a row may be put at any stage, and removed where its record was found
abbrev pub MayMake : RowEdit → RecordStage → Type 0
MayMake (Put row) stage = Unit {0}
MayMake (Remove value) (Replace before bytes) = Unit {0}
MayMake (Remove value) other = ⊥

-- the row of the version that was found
abbrev pub row_found : RecordStage → List Value
row_found (Replace before bytes) = before.row
row_found other = []
