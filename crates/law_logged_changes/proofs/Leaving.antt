-- Steps that change no record leave logs as they are.
use Rattle.row_changes.specs.declared.entry_put.PutPhase.TheVariants as puts
use Rattle.law_logged_changes.specs.Logs.{RecordsAt, LogStands, records_of, IsLogOf, LogsAgree, LogsAgreeBut, IsElsewhere}
use Rattle.law_logged_changes.specs.Steps.{LeavesRecords, LeavesLog, HasNoLog, LeavesLogs, LeavesOtherRows, OfAll, HasCut, ChangesPairsAlone}
use Rattle.std.proofs.Common.{Some, ◌≡◌, ◌≢◌, ◌⊎◌, inl, inr, ⊎_elim, ℕ, zero, suc, ◌<◌, List, [], ◌∷◌, ◌++◌, Option, refl, sym, ap, ◌∙◌, slice_get}
use Rattle.std.proofs.Common.{arith}
use Rattle.std.proofs.{lemmas.Bool.cases_eq}
use Rattle.world.specs.{State.WorldState, State.Session, State.Work, State.Logged, State.HasWork, Told.pairs_of, Told.IsTold, Told.LeavesRows}
use Rattle.row_changes.proofs.Telling.{went, put_told, told_if, rows_if}
use Rattle.row_changes.proofs.{Ids.one_work}
use Rattle.law_logged_changes.proofs.{Logs.all_of, Logs.log_on}
use Rattle.law_stored_rows.proofs.{KeptRows.more_of, Pairs.no_key}
use Rattle.std.specs.{List.AllByRecursion, Prelude.slice_get}
use Rattle.undo_apply.specs.{Stages.GoesOn, Stages.IsDone, Stages.PutsBack, declared.work_room.WorkRoom.WorkRoom}
use Rattle.row_changes.specs.{Asides.StepsAside, Pairs.RowsStay, Pairs.PutsPair}
use Rattle.row_changes.specs.{Told.HasRows}
use Rattle.row_changes.specs.{Told.AreRowsAs}
use Rattle.law_stored_rows.specs.{Records.KeepsMore, Edits.clustered_index, Edits.key_index, Tables.Said, Tables.what_is_there}
use Rattle.row_versions.specs.{Versions.Stays, declared.kept.Kept.Kept, declared.place.Place.Place, Chains.Chains}
use Rattle.inno_types.specs.{declared.value.Schema.Schema}
use Rattle.inno_db.specs.{declared.change.Change.Change}
use Rattle.inno_model.specs.Past.{own}
use Rattle.entries.specs.{Pairs.value_of}
use Rattle.undo_apply.proofs.{Telling.leaves_told, Telling.rows_left as stays_leave, Telling.rows_left_but, Columns.few_keys}
use Rattle.store_api.specs.{declared.answers.Undo.Undo, declared.moves.Move.Move, declared.moves.Move.TheVariants.Done, declared.moves.Move.TheVariants.Step}
use Rattle.law_world_agreement.specs.Agreement.{Agrees}
use Rattle.law_world_agreement.proofs.Joining.{agrees_alike}

-- ---- which steps are such

pub rows_leave : (old new : WorldState) → LeavesRows old new → LeavesRecords old new
rows_leave old new leaves =
    record { schemas = leaves.schemas; told = leaves_told leaves; pairs = λ table. leaves.pairs (clustered_index table); versions = leaves.versions }

pub stay_leaves : (old new : WorldState) → RowsStay old new → LeavesRecords old new
stay_leaves old new stays = rows_leave old new (stays_leave stays)

pub entry_leaves : (table which : ℕ) (entry : List ℕ) (value : Option (List ℕ)) (old new : WorldState) → which < 4
    → PutsPair (key_index table which) entry value old new → LeavesRecords old new
entry_leaves table which entry value old new few puts = record {
  schemas = cc;
  told = put_told (key_index table which) entry value old new puts;
  pairs = λ other. puts.elsewhere (clustered_index other) (λ same. no_key other table which few (sym same));
  versions = puts.versions;
}

-- ---- what they leave

pub same_clustered : (old new : WorldState) → LeavesRecords old new → IsTold new → (table : ℕ)
    → pairs_of new (clustered_index table) ≡ pairs_of old (clustered_index table)
same_clustered old new leaves told table =
    went (λ pairs. pairs) (old.indexes (clustered_index table)).pairs (new.indexes (clustered_index table)).pairs (leaves.pairs table)
    (told.pairs (clustered_index table))

-- a log stands in another world where its tables are there, and the records and what was kept are there yet
pub log_over : {old new : WorldState} (was is : RecordsAt) (log : List Logged) (changes : List Change) → (IsTold new → IsTold old) → new.schemas ≡ old.schemas
    → (IsTold new → (table : ℕ) (key : List ℕ) → is table key ≡ was table key) → (IsTold new → KeepsMore old.versions.kept_at new.versions.kept_at)
    → LogStands old was log changes → LogStands new is log changes
log_over {old} {new} was is log changes told schemas records more =
    log_on told schemas (λ logged. Unit {0}) was is log changes (λ logged at of. records at logged.undo.table logged.undo.key)
    (λ logged at of kind. more_of old.versions.kept_at new.versions.kept_at logged.undo.table logged.undo.key (more at) logged.pointer)
    (λ at. all_of (λ logged. Unit {0}) log (λ logged. tt))

-- a log that tells nothing of a row stands as that changes
pub log_beside : {table : ℕ} {key : List ℕ} {old new : WorldState} → LeavesOtherRows table key old new → (log : List Logged) (changes : List Change)
    → AllByRecursion (IsElsewhere table key) log → IsLogOf old log changes → IsLogOf new log changes
log_beside {table} {key} {old} {new} leaves log changes apart =
    log_on leaves.told leaves.schemas (IsElsewhere table key) (records_of old) (records_of new) log changes
    (λ logged at other. leaves.records at logged.undo.table logged.undo.key other)
    (λ logged at other kind. leaves.kept at logged.undo.table logged.undo.key other logged.pointer) (λ at. apart)

pub stay_kept : (old new : WorldState) → Stays old.versions new.versions → IsTold new → KeepsMore old.versions.kept_at new.versions.kept_at
stay_kept old new stays told pointer found is = ap (λ (kept : ℕ → Option Kept). kept pointer) (stays.kept told.versions) ∙ is

-- ---- all logs

module _ {old new : WorldState} (leaves : LeavesRecords old new) where
  log_left : (log : List Logged) (changes : List Change) → IsLogOf old log changes → IsLogOf new log changes
  log_left log changes =
      log_over (records_of old) (records_of new) log changes leaves.told leaves.schemas
      (λ told table key. ap (value_of key) (same_clustered old new leaves told table)) (stay_kept old new leaves.versions)

  log_kept : (u : ℕ) (work : Work) → ((session : Session) (work : Work) → HasWork u session work old → IsLogOf old work.log (own u old.past))
      → LeavesLog u work old new ⊎ HasNoLog u work new → IsLogOf new work.log (own u new.past)
  log_kept u work each (inl left) =
      rw (left.log_is, left.own_is) (log_left left.before.log (own u old.past) (each left.session left.before left.has_work))
  log_kept u work each (inr none) = rw none.own_is none.log_is

  but_left : (s : ℕ) (log : List Logged) (changes : List Change) → LeavesLogs (λ u. u ≢ s) old new → LogsAgreeBut s log changes old
      → LogsAgreeBut s log changes new
  but_left s log changes logs agree = record {
    mine = log_left log changes agree.mine;
    others = λ u session work differs has. log_kept u work (λ x w had. agree.others u x w differs had) (logs u session work differs has);
  }

pub all_left : (old new : WorldState) → LeavesRecords old new → LeavesLogs OfAll old new → LogsAgree old → LogsAgree new
all_left old new leaves logs agree =
    record { each = λ u session work has. log_kept leaves u work (agree.each u) (logs u session work (record {}) has) }

-- each session had its transaction before
aside_had : {s : ℕ} {old new : WorldState} → StepsAside s old new → (u : ℕ) (session : Session) (work : Work) → HasWork u session work new
    → (before : Session) × HasWork u before work old
aside_had {s} aside u session work has =
    ⊎_elim (λ same. (aside.before, record { session_is = rw same aside.was; work_is = (let one = rw same at has.session_is in let is = aside.is in cc) }))
    (λ differs. (session, record { session_is = sym (aside.others u differs) ∙ has.session_is; work_is = has.work_is })) (cases_eq u s)

pub aside_left : (s : ℕ) (old new : WorldState) → StepsAside s old new → LogsAgree old → LogsAgree new
aside_left s old new aside agree =
    all_left old new (rows_leave old new (record { schemas = cc; pairs = aside.pairs; versions = aside.versions })) logs agree where
      logs : LeavesLogs OfAll old new
      logs u session work of has =
          let had = aside_had aside u session work has in inl (record { session = had.0; before = work; has_work = had.1; log_is = refl; own_is = cc })

-- ---- a log that is to be cut, or has been

pub cut_left : (s : ℕ) (old new : WorldState) (log : List Logged) (before : List Change) (session : Session) (work : Work) → LeavesRecords old new
    → LeavesLogs (λ u. u ≢ s) old new → HasCut s log before old → HasWork s session work new → work.log ≡ log → HasCut s log before new
cut_left s old new log before session work leaves logs cut has is =
    record { session = session; work = work; has_work = has; log_is = is; logs = but_left leaves s log before logs cut.logs }

-- ---- one session apart

pub cut_again : (s : ℕ) (log : List Logged) (before : List Change) (state : WorldState) → HasCut s log before state → own s state.past ≡ before
    → LogsAgree state
cut_again s log before state cut own_is = record {
  each = λ u session work has. ⊎_elim
      (λ same. let mine = one_work s session cut.session work cut.work state (rw same at has) cut.has_work in
      rw same (rw (mine, cut.log_is, own_is) cut.logs.mine)) (λ differs. cut.logs.others u session work differs has) (cases_eq u s);
}

-- ---- a table more

-- all tables are there yet
abbrev pub Grows : List Schema → List Schema → Type 0
Grows schemas others = (table : ℕ) (schema : Schema) → slice_get schemas table ≡ Some schema → slice_get others table ≡ Some schema

pub more_grow : (schemas : List Schema) (schema : Schema) → Grows schemas (schemas ++ schema ∷ [])
more_grow [] schema table found there = absurd (cc)
more_grow (first ∷ schemas) schema zero found there = there
more_grow (first ∷ schemas) schema (suc table) found there = more_grow schemas schema table found there

-- ---- Until a taking back is done, entries of keys alone change.

-- ---- sessions and the history stay

pub work_beside : (u : ℕ) (session : Session) (work : Work) (old new : WorldState) → ChangesPairsAlone old new → HasWork u session work new
    → HasWork u session work old
work_beside u session work old new rest has = record { session_is = cc; work_is = has.work_is }

pub work_again : (u : ℕ) (session : Session) (work : Work) (old new : WorldState) → ChangesPairsAlone old new → HasWork u session work old
    → HasWork u session work new
work_again u session work old new rest has = record { session_is = cc; work_is = has.work_is }

pub own_beside : (u : ℕ) (old new : WorldState) → ChangesPairsAlone old new → own u new.past ≡ own u old.past
own_beside u old new rest = cc

pub agrees_beside : {old new : WorldState} {chains : Chains} → ChangesPairsAlone old new → Agrees chains old → Agrees chains new
agrees_beside {old} {new} {chains} rest agrees = agrees_alike chains old new agrees (cc) (cc) (cc) (cc) (cc)

pub logs_beside : (old new : WorldState) → ChangesPairsAlone old new → LeavesLogs OfAll old new
logs_beside old new rest u session work of has =
    inl (record { session = session; before = work; has_work = work_beside u session work old new rest has; log_is = refl; own_is = cc })

-- ---- the steps

module _ (chains : Chains) (beside : Said) (place : Place) (actor : ℕ) (undo : Undo) (room next : WorkRoom) (old new : WorldState) where
  goes_leaves : GoesOn chains beside place undo room next old new → LeavesRecords old new × ChangesPairsAlone old new
  goes_leaves goes =
      let tells = goes.holds.tells in
      let few = few_keys goes.holds.schema tells.storable in
      ⊎_elim (λ stays. (stay_leaves old new stays, stays.rest))
      (λ one. (entry_leaves undo.table one.0 one.2 one.3 old new (let within = one.1 in omega arith) one.4, one.4.rest))
      (goes.changes goes.holds.schema tells.there)

  step_leaves : (answer : Move) → PutsBack chains beside place actor undo room next old new answer → answer ≢ Done
      → LeavesRecords old new × ChangesPairsAlone old new
  step_leaves Done is not_done = absurd (not_done refl)
  step_leaves Step (inl goes) not_done = goes_leaves goes
  step_leaves Step (inr is) not_done = (rows_leave old new (rows_left_but is.stays), is.stays.rest)
  step_leaves why is not_done = (rows_leave old new (rows_left_but is.stays), is.stays.rest)

  pub done_beside : IsDone chains beside place undo room next old new → ChangesPairsAlone old new
  done_beside done = ⊎_elim (λ stays. stays.rest) (λ puts. puts.rest) done.changes

  pub step_all : (answer : Move) → PutsBack chains beside place actor undo room next old new answer → answer ≢ Done → LogsAgree old → LogsAgree new
  step_all answer is not_done agree = let left = step_leaves answer is not_done in all_left old new left.0 (logs_beside old new left.1) agree

  pub step_beside : (answer : Move) → PutsBack chains beside place actor undo room next old new answer → ChangesPairsAlone old new
  step_beside Done is = done_beside is
  step_beside Step is = (step_leaves Step is (λ e. cc)).1
  step_beside why is = is.stays.rest

-- ---- rows

module _ (old new : WorldState) (leaves : LeavesRows old new) where
  pub left_told : IsTold new → IsTold old
  left_told = told_if old new leaves.pairs leaves.versions

  pub rows_left : (chains : Chains) (said : Said) → IsTold new → AreRowsAs chains said old → AreRowsAs chains said new
  rows_left chains said = rows_if old new chains said leaves.schemas leaves.pairs leaves.versions

  pub has_rows_left : (chains : Chains) → HasRows chains old → HasRows chains new
  has_rows_left chains rows told = rows_left chains (what_is_there chains) told (rows (left_told told))
