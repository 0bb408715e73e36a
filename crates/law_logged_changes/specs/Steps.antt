-- What the steps of changes and of their taking back make of logs.
use Rattle.std.specs.Prelude.{◌≡◌, ◌≢◌, ◌⊎◌, ℕ, List, [], ◌∷◌, slice_get, Some}
use Rattle.inno_types.specs.declared.value.Schema.{Schema}
use Rattle.inno_db.specs.declared.change.Change.{Change}
use Rattle.inno_model.specs.Past.{own}
use Rattle.entries.specs.Index.{AreKept}
use Rattle.row_versions.specs.{Versions.Stays, declared.version.Version.Version}
use Rattle.law_stored_rows.specs.{Edits.clustered_index, Records.KeepsMore, Records.kept_of, Records.LeadTo, Records.IsRecordWith}
use Rattle.world.specs.{State.WorldState, State.Session, State.Work, State.Logged, State.HasWork, Told.IsTold}
use Rattle.row_changes.specs.{declared.record_change.RecordChange.RecordChange, Edits.change_of}
use Rattle.law_logged_changes.specs.Logs.{KeepElsewhere, IsLogOf, LogsAgreeBut, IsAloneOf, records_of, kept_in}

-- ---- a change is made

-- The session's log has the undo record of this change now, and its history the change.
pub record HasLogged (s : ℕ) (change : RecordChange) (log : List Logged) (old new : WorldState) : Type 0 where
  pub session : Session
  pub work : Work
  pub has_work : HasWork s session work new
  pub logged : Logged
  pub log_is : work.log ≡ logged ∷ log
  pub own_is : own s new.past ≡ change_of change.table change.edit ∷ own s old.past
  pub table_is : logged.undo.table ≡ change.table
  pub key_is : logged.undo.key ≡ change.key
  pub stands : IsLogOf new work.log (own s new.past)

-- ---- records stay

-- No clustered record and no kept version has changed. Entries of keys may have.
pub record LeavesRecords (old new : WorldState) : Type 0 where
  pub schemas : new.schemas ≡ old.schemas
  pub told : IsTold new → IsTold old
  pub pairs : (table : ℕ) → AreKept (old.indexes (clustered_index table)).pairs (new.indexes (clustered_index table)).pairs
  pub versions : Stays old.versions new.versions

-- the session's log and its changes are as they were
pub record LeavesLog (u : ℕ) (work : Work) (old new : WorldState) : Type 0 where
  pub session : Session
  pub before : Work
  pub has_work : HasWork u session before old
  pub log_is : work.log ≡ before.log
  pub own_is : own u new.past ≡ own u old.past

-- a transaction that has changed nothing
pub record HasNoLog (u : ℕ) (work : Work) (new : WorldState) : Type 0 where
  pub log_is : work.log ≡ []
  pub own_is : own u new.past ≡ []

-- the logs and changes of these sessions are as they were, or empty
abbrev pub LeavesLogs : (ℕ → Type 0) → WorldState → WorldState → Type 0
LeavesLogs Of old new = (u : ℕ) (session : Session) (work : Work) → Of u → HasWork u session work new → LeavesLog u work old new ⊎ HasNoLog u work new

abbrev pub OfAll : ℕ → Type 0
OfAll u = Unit {0}

-- all is as it was but pairs, kept versions and what is known of pages
abbrev pub ChangesPairsAlone : WorldState → WorldState → Type 0
ChangesPairsAlone old new = new ≡ record old { indexes = new.indexes; versions = new.versions; paged = new.paged }

-- One row changes at most: of all others the clustered record is what it was, and the versions that were kept are.
pub record LeavesOtherRows (table : ℕ) (key : List ℕ) (old new : WorldState) : Type 0 where
  pub schemas : new.schemas ≡ old.schemas
  pub told : IsTold new → IsTold old
  pub records : IsTold new → (other : ℕ) (also : List ℕ) → (other ≢ table) ⊎ (also ≢ key) → records_of new other also ≡ records_of old other also
  pub kept : IsTold new → (other : ℕ) (also : List ℕ) → (other ≢ table) ⊎ (also ≢ key)
      → KeepsMore (kept_of old.versions.kept_at other also) (kept_of new.versions.kept_at other also)

-- ---- a change is taken back

-- The undo record's pointer leads to the versions that the record of its row has again.
pub record IsRowAgain (logged : Logged) (state : WorldState) : Type 0 where
  pub schema : Schema
  pub there : slice_get state.schemas logged.undo.table ≡ Some schema
  pub version : Version
  pub older : List Version
  pub leads : LeadTo schema logged.undo.key (kept_in state logged.undo) logged.pointer (version ∷ older)
  pub record_is : IsRecordWith schema logged.undo.key (kept_in state logged.undo) (records_of state logged.undo.table logged.undo.key) (version ∷ older)

-- The row doesn't need what the undo record keeps, and no older record keeps its version there.
pub record MayBeCut (logged : Logged) (log : List Logged) (state : WorldState) : Type 0 where
  pub kind_is : (logged.undo.kind ≡ 1) ⊎ (logged.undo.kind ≡ 2)
  pub again : IsTold state → logged.undo.kind ≡ 2 → IsRowAgain logged state
  pub elsewhere : IsTold state → KeepElsewhere logged log

-- The newest change of the session is taken back. Its undo record is there yet, on top of this log, and it may go. No other
-- session has an undo record of its row.
pub record IsToCut (s : ℕ) (logged : Logged) (log : List Logged) (before : List Change) (state : WorldState) : Type 0 where
  pub session : Session
  pub work : Work
  pub has_work : HasWork s session work state
  pub log_is : work.log ≡ logged ∷ log
  pub may : MayBeCut logged log state
  pub alone : IsAloneOf logged.undo.table logged.undo.key s state
  pub logs : LogsAgreeBut s log before state

-- The undo record has gone: the log is this.
pub record HasCut (s : ℕ) (log : List Logged) (before : List Change) (state : WorldState) : Type 0 where
  pub session : Session
  pub work : Work
  pub has_work : HasWork s session work state
  pub log_is : work.log ≡ log
  pub logs : LogsAgreeBut s log before state
