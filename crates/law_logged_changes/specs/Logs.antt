-- When the undo log of a transaction is that of its changes: each change of a row has its record there, and the records put
-- back in turn, the newest first, what was there before.
use Rattle.std.specs.Prelude.{◌≡◌, ◌≢◌, ◌⊎◌, ℕ, ◌==◌, ◌&&◌, false, if◌then◌else◌, List, [], ◌∷◌, Option, Some}
use Rattle.std.specs.{List.AllByRecursion, List.list_any, BTreeMap.is_at as is_key_at}
use Rattle.inno_types.specs.declared.value.Schema.{Schema}
use Rattle.inno_db.specs.{declared.change.Change.Change, declared.change.Change.TheVariants.Create}
use Rattle.inno_model.specs.Past.{own}
use Rattle.store_api.specs.{declared.answers.Undo.Undo, declared.answers.Version.Version as Coded}
use Rattle.entries.specs.Pairs.{key_cmp, value_of}
use Rattle.row_versions.specs.{declared.kept.Kept.Kept, declared.place.Place.Place}
use Rattle.law_stored_rows.specs.{Edits.clustered_index, Records.IsCodeOf, Records.kept_of}
use Rattle.law_past_agreement.specs.Rows.{place_in, is_at}
use Rattle.world.specs.{State.WorldState, State.Session, State.Work, State.Logged, State.HasWork, Told.IsTold, Told.pairs_of}
use Rattle.undo_apply.specs.Standing.{TellsOf, LeadsBack, was_before}

-- by table and key the bytes of the clustered record
abbrev pub RecordsAt : Type 0
RecordsAt = ℕ → List ℕ → Option (List ℕ)

abbrev pub records_of : WorldState → RecordsAt
records_of state table key = value_of key (pairs_of state (clustered_index table))

-- at the undo record's table and key what was before the change, and elsewhere the same
abbrev pub taken_back : Undo → RecordsAt → RecordsAt
taken_back undo records table key = if table == undo.table && is_key_at (key_cmp undo.key) key then was_before undo else records table key

-- what is kept for the undo record's row
abbrev pub kept_in : WorldState → Undo → ℕ → Option Kept
kept_in state undo = kept_of state.versions.kept_at undo.table undo.key

-- The change stands: its record is there, and its pointer leads to what was before, which is kept as a version of its row.
pub record HasRecord (state : WorldState) (records : RecordsAt) (schema : Schema) (logged : Logged) : Type 0 where
  pub bytes : List ℕ
  pub coded : Coded
  pub there : records logged.undo.table logged.undo.key ≡ Some bytes
  pub code_is : IsCodeOf schema logged.undo.key bytes coded
  pub before : LeadsBack logged.undo (kept_in state logged.undo) coded.pointer
  pub pointer_is : logged.undo.kind ≡ 2 → coded.pointer ≡ logged.pointer

-- older undo records that keep a version keep it behind other pointers
abbrev pub KeepElsewhere : Logged → List Logged → Type 0
KeepElsewhere logged log = logged.undo.kind ≡ 2 → AllByRecursion (λ older. older.undo.kind ≡ 2 → older.pointer ≢ logged.pointer) log

-- The undo record is that of the change, which is one of a row. Of the record that stands something is known where it is told.
pub record Stands (state : WorldState) (records : RecordsAt) (logged : Logged) (log : List Logged) (change : Change) : Type 0 where
  pub place : Place
  pub place_is : place_in state.schemas change ≡ Some place
  pub schema : Schema
  pub tells : TellsOf logged.undo schema place state.schemas
  pub record_is : IsTold state → HasRecord state records schema logged
  pub elsewhere : IsTold state → KeepElsewhere logged log

-- The log has an undo record for each of these changes of rows, both the newest first, where these are the records. A table that is made takes none.
abbrev pub LogStands : WorldState → RecordsAt → List Logged → List Change → Type 0
LogStands state records log [] = log ≡ []
LogStands state records log (Create schema ∷ own) = LogStands state records log own
LogStands state records [] (change ∷ own) = ⊥
LogStands state records (logged ∷ log) (change ∷ own) =
    Stands state records logged log change × LogStands state (taken_back logged.undo records) log own

-- in this world the log is that of these changes
abbrev pub IsLogOf : WorldState → List Logged → List Change → Type 0
IsLogOf state log own = LogStands state (records_of state) log own

-- The log of each session is that of the changes that the history has of it.
pub record LogsAgree (state : WorldState) : Type 0 where
  pub each : (s : ℕ) (session : Session) (work : Work) → HasWork s session work state → IsLogOf state work.log (own s state.past)

-- The same of all sessions but one, of which this is the log, and these are its changes. Between the steps by which a change
-- is taken back the history may have one more, or the log.
pub record LogsAgreeBut (s : ℕ) (log : List Logged) (changes : List Change) (state : WorldState) : Type 0 where
  pub mine : IsLogOf state log changes
  pub others : (u : ℕ) (session : Session) (work : Work) → u ≢ s → HasWork u session work state → IsLogOf state work.log (own u state.past)

-- ---- of one place

-- no other session has changes of this place
abbrev pub IsAloneAt : Place → ℕ → WorldState → Type 0
IsAloneAt place s state = (u : ℕ) → u ≢ s → list_any (is_at state.schemas place) (own u state.past) ≡ false

-- the undo record is of another row than that at this key of this table
abbrev pub IsElsewhere : ℕ → List ℕ → Logged → Type 0
IsElsewhere table key logged = (logged.undo.table ≢ table) ⊎ (logged.undo.key ≢ key)

-- no undo record of another session is of the row
abbrev pub IsAloneOf : ℕ → List ℕ → ℕ → WorldState → Type 0
IsAloneOf table key s state =
    (u : ℕ) (session : Session) (work : Work) → u ≢ s → HasWork u session work state → AllByRecursion (IsElsewhere table key) work.log
