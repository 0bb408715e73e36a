-- A change of a row in held lists: how it begins, what each of its steps leaves, with the indexes that are left where it is over
-- or was hindered, and a change that is given up.
use Rattle.store_api.specs.declared.stepped.Stepped.TheVariants as stepped
use Rattle.shared_lists.specs.declared.answers.ChangePart.TheVariants as part
use Rattle.std.proofs.Common.{◌≡◌, ℕ, zero, suc, ◌+◌, ◌<◌, ◌^◌, false, true, List, ◌∷◌, length, Option, Some, refl, sym, ap, subst, ◌∙◌, arith, []}
use Rattle.std.proofs.Common.{inl, inr, ⊎_elim, Bool, None}
use Rattle.std.proofs.lemmas.Bool.{false≢true, cases_eq}
use Rattle.std.specs.{Prelude.slice_get, Prelude.slice_index_or, Prelude.slice_set, Prelude.get_or, Prelude.is_some, List.list_any}
use Rattle.row_versions.specs.Chains.{Chains, versions_at, newest}
use Rattle.row_versions.specs.{declared.place.Place.Place, declared.kept.Kept.Kept, declared.version.Version.Version}
use Rattle.law_stored_rows.specs.{Tables.Said, Tables.in_table, Records.IsRecordWith, Records.kept_of, Records.row_shown}
use Rattle.law_stored_rows.specs.{Edits.clustered_index}
use Rattle.key_codec.specs.Keys.{IsOfKind, HasKey, key_code}
use Rattle.shared_lists.specs.{Tasks.Task, Tasks.Idle, Tasks.asked, Tasks.left_by, Tasks.is_changing, Tasks.steps_left, State.Lists, State.Turns, State.task_of}
use Rattle.shared_lists.specs.{Fitting.FitsWell, Fitting.RemovesOne, Answers.Changed, Steps.Changes, Steps.rows_entered}
use Rattle.desks.specs.declared.desk.Doing.TheVariants.{Nothing, Searching, Changing, Lagging, Undoing}
use Rattle.desks.specs.Desks.{desk_at, doing_at, with_doing, doing_in, Store}
use Rattle.desks.specs.{declared.desk.Desk.Desk, declared.desk.Doing.Doing, Shown.lists_of, Shown.shown, Undoing.left_in, Holding.IsHeld}
use Rattle.desks.proofs.Showing.{task_is, desk_read, given_at}
use Rattle.law_held_steps.proofs.Showing.{begun_turns, begun_task, went_shown, entered_shown, done_shown, given_up_shown, rows_shown}
use Rattle.row_changes.proofs.Pushed.{at_row, changes_row}
use Rattle.law_held_steps.proofs.{Made.can_be_keyed, Made.begins, Made.change_made, Hindering.last_lacks, Hindering.room_lacks, Hindering.keys_lack}
use Rattle.law_held_steps.proofs.Hindering.{lacking}
use Rattle.law_held_steps.specs.Hindering.{IsForWant, hindrance_of}
use Rattle.shared_lists.specs.declared.answers.Hindrance.TheVariants as hindrances
use Rattle.law_held_steps.proofs.{Made.changing_row, Apart.alone_at, Apart.beside_of, AnyStep.changes_at_a_desk}
use Rattle.world_lists.specs.Parts.{StepsChange, StepsAtDesk, HasChange, IsThereToRemove, RemovesRow, MayGoOn, IsForWantIfHindered}
use Rattle.world_lists.specs.Parts.{doing_now, is_told, answer_for}
use Rattle.world_lists.specs.Between.{IsKept}
use Rattle.inno_model.specs.{Past.IsOpen, Past.own, Past.commits, Past.committed}
use Rattle.row_changes.specs.{Reached.Went, Reached.Done, Reached.Hindered, Reached.Reached, Rows.IsChangingRow, Rows.IsAtRow, Rows.MakesRow, Rows.ChangesRow}
use Rattle.row_changes.specs.{Rows.primary_of, Edits.change_of, Edits.FitsEdit, Edits.HasNoRow, Edits.LacksRow, Records.IsTable, Records.IsSpoiled}
use Rattle.row_changes.specs.{Records.HindersRecord, declared.row_change.RowChange.TheVariants.Record, declared.row_change.RowChange.TheVariants.Keys}
use Rattle.row_changes.specs.{declared.row_edit.RowEdit.TheVariants.Put, declared.row_edit.RowEdit.TheVariants.Remove, Awaited.AwaitsNoMore, Awaited.AwaitsNobody}
use Rattle.row_changes.specs.{declared.row_edit.RowEdit.RowEdit, declared.row_change.RowChange.RowChange, Told.HasRowsAt}
use Rattle.row_changes.specs.{declared.record_change.RecordChange.RecordChange}
use Rattle.law_held_steps.specs.Making.{doing_after, made_to, Comes, LeavesLists, MakesChange, IsEditable, IsKeyOfEdit, begun}
use Rattle.world_lists.proofs.Calls.{kept_beside, same_no_more, nobody_then, past_here, at_rest, at_desk}
use Rattle.world_lists.proofs.Calls.{writer_now}
use Rattle.law_past_agreement.specs.{Rows.is_at, Rows.row_opened, Rows.row_seen, Order.created}
use Rattle.inno_db.specs.declared.change.Change.{Change}
use Rattle.row_changes.proofs.{Changing.lacks_memory, Sessions.one_found, Telling.tells, Pushed.key_at}
use Rattle.inno_types.specs.{declared.value.Column.Column, declared.value.Schema.Schema, declared.value.Value.Value}
use Rattle.store_api.specs.declared.moves.Move.TheVariants.{NoMemory, End}
use Rattle.store_api.specs.{declared.moves.Move.Move, declared.answers.Version.Version as Coded}
use Rattle.world.specs.{State.WorldState, Told.IsTold, Told.pairs_of, AtHand.IsAtHand}
use Rattle.row_codec.specs.Rows.{IsRecordOf}
use Rattle.entries.specs.Pairs.{value_of}
use Rattle.law_past_agreement.proofs.Rows.{row_at-append}
use Rattle.law_stored_rows.proofs.RowRecords.{record_read}
use Rattle.law_world_agreement.specs.Agreement.{Agrees}
use Rattle.law_world_agreement.proofs.Readers.{seen_newest}
use Rattle.law_logged_changes.specs.Logs.{IsAloneAt}

-- ---- Nothing but want of memory, of pages or of levels hinders a step over a store at hand where nobody is awaited: the record is coded, and
-- there where it is to be removed.

no_row : (row : Option (List Value)) → row ≡ None → is_some row ≡ true → ⊥
no_row None none is = absurd (false≢true is)
no_row (Some row) none is = absurd (cc)

module _ (schema : Schema) (key : List ℕ) (kept : ℕ → Option Kept) where
  -- it is one of the table's
  decodes : (found : Option (List ℕ)) (versions : List Version) (bytes : List ℕ) → IsRecordWith schema key kept found versions → found ≡ Some bytes
      → (coded : Coded) × IsRecordOf schema coded key bytes
  decodes found [] bytes is at = absurd (subst (λ (f : Option (List ℕ)). IsRecordWith schema key kept f []) at is)
  decodes found (version ∷ rest) bytes is at =
      let there = subst (λ (f : Option (List ℕ)). IsRecordWith schema key kept f (version ∷ rest)) at is in (there.0, there.1.record_is)

  -- and shows a row where its newest version has one
  shows_row : (found : Option (List ℕ)) (versions : List Version) → IsRecordWith schema key kept found versions → HasNoRow schema key found
      → is_some (newest versions) ≡ true → ⊥
  shows_row None [] is none row = no_row None refl row
  shows_row None (version ∷ rest) is none row = absurd is
  shows_row (Some bytes) versions is none row =
      let read = ap newest (record_read schema key bytes kept versions none.0 is none.1).0 in
      no_row (newest versions) (read ∙ ap (λ marked. row_shown marked none.0.row) none.2) row

-- the coded rows of a place, whose key has this record
module _ (chains : Chains) (beside : Said) (state : WorldState) (told : IsTold state) (table : ℕ) (schema : Schema) (edit : RowEdit) (key : List ℕ)
    (there : slice_get state.schemas table ≡ Some schema) (fits : FitsEdit schema edit key) (rows : HasRowsAt chains beside table key state) where
  abbrev index : ℕ
  index = clustered_index table

  abbrev versions : List Version
  versions = in_table table chains (primary_of schema edit)

  record_is : IsRecordWith schema key (kept_of state.versions.kept_at table key) (value_of key (pairs_of state index)) versions
  record_is =
      let value = primary_of schema edit in
      let at = key_at schema edit key fits in
      let are = (rows schema value there at told).1.clustered.tables table schema there in
      let one : at.column ≡ are.primary = one_found at.column are.primary at.primary are.primary_is in
      subst (λ (k : List ℕ). IsRecordWith schema k (kept_of state.versions.kept_at table k) (value_of k (pairs_of state index)) versions)
      (sym (at.spelled ∙ ap (λ (column : Column). key_code column.kind value) one))
      (are.records value (subst (λ (column : Column). HasKey column.kind value) one at.has_key))

  never_spoiled : IsSpoiled schema key (state.indexes index) → ⊥
  never_spoiled spoiled =
      let bad = tells (λ pairs. (bytes : List ℕ) × (value_of key pairs ≡ Some bytes) × ((coded : Coded) → IsRecordOf schema coded key bytes → ⊥))
      (state.indexes index).pairs spoiled (told.pairs index) in
      let is = decodes schema key (kept_of state.versions.kept_at table key) (value_of key (pairs_of state index)) versions bad.0 record_is bad.1 in
      bad.2 is.0 is.1

  never_lacks : (which : RowEdit) (why : Move) → edit ≡ which → IsThereToRemove chains table which → LacksRow which schema key (state.indexes index) why → ⊥
  never_lacks (Put row) why is has lacks = absurd lacks
  never_lacks (Remove value) End is has lacks =
      shows_row schema key (kept_of state.versions.kept_at table key) (value_of key (pairs_of state index)) versions record_is
      (tells (λ pairs. HasNoRow schema key (value_of key pairs)) (state.indexes index).pairs lacks (told.pairs index))
      (subst (λ (e : RowEdit). is_some (newest (in_table table chains (primary_of schema e))) ≡ true) (sym is) has)
  never_lacks (Remove value) other is has lacks = absurd lacks

-- ---- a step

module _ (s : ℕ) (chains : Chains) (beside : Said) (old new : WorldState) (was : IsAtHand old) (now : IsAtHand new) (nobody : AwaitsNobody old) where
  record_lacks : (change : RecordChange) (schema : Schema) (why : Move) → IsTable change.table schema old → FitsEdit schema change.edit change.key
      → HasRowsAt chains beside change.table change.key old → IsThereToRemove chains change.table change.edit → HindersRecord s change schema old new why
      → IsForWant why
  record_lacks change schema why is fits rows has (inl call) =
      last_lacks s old new was now nobody (clustered_index change.table) why call
  record_lacks change schema why is fits rows has (inr (inl room)) = room_lacks s old new was now _ why room.0 room.1
  record_lacks change schema why is fits rows has (inr (inr (inl spoiled))) =
      absurd (never_spoiled chains beside old was.told change.table schema change.edit change.key is.there fits rows spoiled)
  record_lacks change schema why is fits rows has (inr (inr (inr lacks))) =
      absurd (never_lacks chains beside old was.told change.table schema change.edit change.key is.there fits rows change.edit why refl has lacks)

-- a step of a change that may go on is hindered for such a want alone
hindered_for_want : (s : ℕ) (old new : WorldState) (change same : RowChange) (why : Move) → IsAtHand old → IsAtHand new → (may : MayGoOn s old change)
    → ChangesRow s may.chains may.beside old new change (Hindered same why) → IsForWant why
hindered_for_want s old new (Record change key after) same why was now may made =
    let is = may.changing.0 in
    let off = made.2 in
    let one = one_found is.schema off.1 is.table.there off.2.there in
    record_lacks s may.chains may.beside old new was now may.nobody change off.1 why off.2
    (subst (λ (schema : Schema). FitsEdit schema change.edit change.key) one is.fits) may.changing.1 may.removes off.3
hindered_for_want s old new (Keys change) same why was now may made =
    keys_lack s old new was now may.nobody change why made.2.1

-- ---- the newest row of a place is the one that the session sees, where no other has changes of it

module _ (chains : Chains) (state : WorldState) (agrees : Agrees chains state) (s : ℕ) (place : Place) (alone : IsAloneAt place s state) where
  abbrev at : Change → Bool
  at = is_at (created state.past) place

  abbrev unless_own : ℕ → Option (List Value)
  unless_own t = row_seen state.past t (commits state.past) place

  -- who has no changes of it sees what is committed
  sees_committed : (t u : ℕ) → list_any at (own t state.past) ≡ false → list_any at (own u state.past) ≡ false → unless_own t ≡ unless_own u
  sees_committed t u none also =
      let below = committed (commits state.past) state.past in
      let opened = row_opened state.past place in
      row_at-append opened at (own t state.past) below none ∙ sym (row_at-append opened at (own u state.past) below also)

  pub newest_seen : newest (versions_at place chains) ≡ row_seen state.past s (commits state.past) place
  newest_seen =
      let by = seen_newest chains state agrees place in
      by.2 ∙ ⊎_elim (λ same. ap unless_own same)
      (λ differs. sees_committed by.0 s (subst (λ (tables : List Schema). list_any (is_at tables place) (own by.0 state.past) ≡ false) agrees.lists.tables
      (alone by.0 differs)) (by.1 s (λ same. differs (sym same)))) (cases_eq by.0 s)

-- ---- the table of a change

pub its_rows : {s : ℕ} {state : WorldState} {change : RowChange} → MayGoOn s state change
    → (chains : Chains) × (beside : Said) × IsChangingRow s chains beside state change
its_rows may = (may.chains, may.beside, may.changing)

pub its_start : {s : ℕ} {state : WorldState} {change : RowChange} → MayGoOn s state change
    → (chains : Chains) × (beside : Said) × IsAtRow s chains beside state change
its_start {s} {state} {change} may = (may.chains, may.beside, at_row s may.chains may.beside state change may.changing)

-- where the rows before it are known
pub changed_as : (s : ℕ) (old new : WorldState) (change : RowChange) (reached : Reached RowChange)
    → ((chains : Chains) (beside : Said) → IsAtRow s chains beside old change → MakesRow s chains beside old new change reached)
    → (chains : Chains) (beside : Said) → IsChangingRow s chains beside old change → ChangesRow s chains beside old new change reached
changed_as s old new change reached made chains beside p =
    changes_row s chains beside old new change reached p (made chains beside (at_row s chains beside old change p))

pub wants_of : (s : ℕ) (old new : WorldState) (change same : RowChange) (why : Move) {came : Reached RowChange} → IsAtHand old → IsAtHand new
    → MayGoOn s old change → ((chains : Chains) (beside : Said) → IsAtRow s chains beside old change → MakesRow s chains beside old new change came)
    → came ≡ Hindered same why → IsForWant why
wants_of s old new change same why was now may made is =
    hindered_for_want s old new change same why was now may (subst (ChangesRow s may.chains may.beside old new change) is
    (changed_as s old new change _ made may.chains may.beside may.changing))

-- ---- how far a change came

pub answer_over : (change : RowChange) → stepped.Done part.Keys ≡ answer_for change Done
answer_over (Record change key after) = refl
answer_over (Keys change) = refl

pub answer_hindered : (change same : RowChange) (why : Move) → stepped.Hindered (hindrance_of why) ≡ answer_for change (Hindered same why)
answer_hindered (Record change key after) same why = refl
answer_hindered (Keys change) same why = refl

-- one that goes on lies at its desk
pub lies_there : (change next : RowChange) {answer : Changed} → answer ≡ answer_for change (Went next)
    → doing_now change next answer ≡ doing_after change (Went next)
lies_there (Record change key after) (Record next key' after') is = ap (doing_now (Record change key after) (Record next key' after')) is
lies_there (Record change key after) (Keys next) is = ap (doing_now (Record change key after) (Keys next)) is
lies_there (Keys change) (Record next key after) is = ap (doing_now (Keys change) (Record next key after)) is
lies_there (Keys change) (Keys next) is = ap (doing_now (Keys change) (Keys next)) is

pub step_of : {s : ℕ} (change : RowChange) {old new : WorldState} {doing : Doing} {answer : Changed} {came : Reached RowChange}
    (reached : Reached RowChange) → AwaitsNoMore old new → came ≡ reached
    → ((chains : Chains) (beside : Said) → IsChangingRow s chains beside old change → ChangesRow s chains beside old new change came)
    → IsForWantIfHindered reached → doing ≡ doing_after change reached → answer ≡ answer_for change reached → StepsChange s change old new doing answer
step_of {s} change {old} {new} reached awaits is made wants doing_is answer_is = record {
  reached = reached;
  made = λ chains beside changing. subst (ChangesRow s chains beside old new change) is (made chains beside changing);
  awaits = awaits;
  wants = wants;
  doing_is = doing_is;
  answer_is = answer_is;
}

-- a change that has made a step where it lies: what is left of it is at its desk
pub steps_there : (s : ℕ) {old new : WorldState} (desks : List Desk) {read : Desk} {change : RowChange} {doing put : Doing} {answer : Changed}
    → s < length desks → read ≡ get_or desks s read → read.doing ≡ Changing change → StepsChange s change old new doing answer → put ≡ doing
    → StepsAtDesk s old new desks (slice_set desks s (record read { doing = put })) answer
steps_there s {old} {new} desks {change = change} {doing = doing} {answer = answer} within is at step same other is_other =
    let one : change ≡ other = (let e : Changing change ≡ Changing other =
    sym at ∙ (sym (ap doing_in (desk_read desks s within is)) ∙ is_other) in cc) in
    (doing, subst (λ (c : RowChange). StepsChange s c old new doing answer) one step, given_at s doing desks within is same)

-- the change at the desk may go on
pub may_there : (s : ℕ) {state : WorldState} (desks : List Desk) {read : Desk} {change : RowChange} → s < length desks → read ≡ get_or desks s read
    → read.doing ≡ Changing change → HasChange s state desks → MayGoOn s state change
may_there s {state} desks {change = change} within is at has =
    let one : has.0 ≡ change = (let e : Changing has.0 ≡ Changing change = sym has.1 ∙ (ap doing_in (desk_read desks s within is) ∙ at) in cc) in
    subst (MayGoOn s state) one has.2

-- ---- a change that is given up

-- one that the history doesn't tell is as where it found no memory
pub dropped : (s : ℕ) (chains : Chains) (beside : Said) (state : WorldState) (change : RowChange) → is_told change ≡ false
    → IsChangingRow s chains beside state change → ChangesRow s chains beside state state change (Hindered change NoMemory)
dropped s chains beside state (Record change key after) untold is =
    let lacks = lacks_memory s state change is.0 in (refl, is, (lacks.1, lacks.3, lacks.4, lacks.5))
dropped s chains beside state (Keys change) untold is = absurd (false≢true (sym untold))

pub nothing_after : (change : RowChange) → is_told change ≡ false → Nothing ≡ doing_after change (Hindered change NoMemory)
nothing_after (Record change key after) untold = refl
nothing_after (Keys change) untold = absurd (false≢true (sym untold))

-- ---- the table that a change finds

pub one_there : (schemas : List Schema) (n : ℕ) {schema found : Schema} → slice_get schemas n ≡ Some schema → found ≡ slice_index_or schemas n found
    → schema ≡ found
one_there [] n found is = absurd (cc)
one_there (first ∷ schemas) zero {schema} {found} is at = let same : first ≡ schema = cc in let also : found ≡ first = at in cc
one_there (first ∷ schemas) (suc n) is at = one_there schemas n is at

-- the item of a slice that is the tables
pub item_of : (n : ℕ) {schemas tables slice : List Schema} {found : Schema} → found ≡ slice_index_or slice n found → slice ≡ tables → tables ≡ schemas
    → found ≡ slice_index_or schemas n found
item_of n {found = found} at same also = at ∙ ap (λ (list : List Schema). slice_index_or list n found) (same ∙ also)

-- ---- a change begins

-- it has the change under way now, and nothing else has changed
pub record Begins (s : ℕ) (change : Change) (old new : Lists) : Type 0 where
  pub turns : Turns s (task_of s new.state) old.state new.state
  pub changing : is_changing (task_of s new.state) ≡ true
  pub asked_is : asked (task_of s new.state) ≡ Some change
  pub few : steps_left (task_of s new.state) < 2 ^ 70
  pub settings : new.settings ≡ old.settings
  pub rows : new.rows ≡ old.rows

module _ (s : ℕ) {store : Store} {lists : Lists} (kept : IsKept store) (view : lists_of store ≡ lists) (locked : lists.state.writer ≡ Some s)
    {change : Change} (fits : FitsWell (created lists.state.past) change) (table : ℕ) (edit : RowEdit) (is : change_of table edit ≡ change)
    {slice tables : List Schema} (slice_is : slice ≡ tables) (tables_are : tables ≡ store.world.schemas) where
  abbrev state : WorldState
  state = store.world

  fits_mine : FitsWell (created state.past) (change_of table edit)
  fits_mine = subst (FitsWell (created state.past)) (sym is) (past_here s kept view (λ h. FitsWell (created h) change) fits)

  can : IsEditable state table edit
  can = can_be_keyed kept.held table edit fits_mine

  pub edit_within : table < length slice
  edit_within = subst (λ (schemas : List Schema). table < length schemas) (sym (slice_is ∙ tables_are)) can.within

  module _ {found : Schema} (found_is : found ≡ slice_index_or slice table found) where
    one : can.schema ≡ found
    one = one_there state.schemas table can.there (item_of table found_is slice_is tables_are)

    pub edit_keyed : (column : Column) × (slice_get found.columns found.primary ≡ Some column) × IsOfKind column.kind (primary_of found edit)
    edit_keyed =
        subst (λ (schema : Schema). (column : Column) × (slice_get schema.columns schema.primary ≡ Some column) × IsOfKind column.kind (primary_of schema edit))
        one (can.column, can.primary, can.of_kind)

    module _ (idle : task_of s lists.state ≡ Idle) (key : List ℕ) (spelled : IsKeyOfEdit found edit key) {first : RowChange}
        (is_first : first ≡ begun table edit key) {later : List Desk} (gives_first : later ≡ with_doing s (Changing first) store.desks) where
      gives : later ≡ with_doing s (Changing (begun table edit key)) store.desks
      gives = subst (λ (c : RowChange). later ≡ with_doing s (Changing c) store.desks) is_first gives_first

      pub change_kept : IsTold state → IsOpen s lists.state.past → IsKept (record store { desks = later })
      change_kept told is_open =
          let idles = at_rest s kept view idle in
          let there = subst (λ (schema : Schema). slice_get state.schemas table ≡ Some schema) one can.there in
          kept_beside kept (same_no_more state) s (Changing (begun table edit key)) gives
          (begins kept.held (writer_now s kept view locked) told table found edit key idles (past_here s kept view (IsOpen s) is_open) fits_mine there spelled)

      pub change_begins : s < length lists.state.names → Begins s change lists (lists_of (record store { desks = later }))
      change_begins joined =
          let now : Lists = lists_of (record store { desks = later }) in
          let now_is : now ≡ lists_of (record store { desks = with_doing s (Changing (begun table edit key)) store.desks })
          = ap (λ (ds : List Desk). lists_of (record store { desks = ds })) gives in
          let mine = writer_now s kept view locked in
          let task = begun_task kept.held mine (at_desk s kept view joined) table edit key now now_is in
          subst (λ (l : Lists). Begins s change l now) view (record {
            turns = begun_turns kept.held mine (at_desk s kept view joined) table edit key now now_is;
            changing = task.0;
            asked_is = subst (λ (asks : Change). asked (task_of s now.state) ≡ Some asks) is task.1;
            few = task.2;
            settings = refl;
            rows = refl;
          })

-- ---- a step of a change

-- One step, by its answer. What sessions have set is as it was.
pub record ChangesIn (s : ℕ) (old new : Lists) (answer : Changed) : Type 0 where
  pub changes : Changes s old.state new.state answer
  pub settings : new.settings ≡ old.settings
  pub rows : new.rows ≡ old.rows + rows_entered answer (task_of s old.state)

all_of : {s : ℕ} {old new : Lists} {answer : Changed} → Changes s old.state new.state answer → new.settings ≡ old.settings
    → new.rows ≡ old.rows + rows_entered answer (task_of s old.state) → ChangesIn s old new answer
all_of changes settings rows = record { changes = changes; settings = settings; rows = rows }

no_more : (new old : ℕ) → new ≡ old → new ≡ old + 0
no_more new old same = omega arith

-- what a step shows, by how far it came
module _ {s : ℕ} {store : Store} {new : WorldState} (held : IsHeld store) (mine : store.writer ≡ Some s) (leaves : LeavesLists store.world new)
    (within : s < length store.desks) where
  abbrev was_world : WorldState
  was_world = store.world

  abbrev Shows : RowChange → Reached RowChange → Type 0
  Shows change came = ChangesIn s (lists_of store) (lists_of (made_to s store new change came)) (answer_for change came)

  came_shown : (change : RowChange) (came : Reached RowChange) → doing_at s store.desks ≡ Changing change → IsForWantIfHindered came
      → Comes s was_world new change came → Shows change came
  came_shown (Record change key after) (Went (Record next key' after')) at wants comes =
      all_of (went_shown held mine leaves within at comes) leaves.settings (no_more new.rows was_world.rows comes.adds.rows)
  came_shown (Record change key after) (Went (Keys next)) at wants comes =
      all_of (entered_shown held mine leaves within at comes) leaves.settings (rows_shown held mine leaves within at comes)
  came_shown (Keys change) (Went (Record next key' after')) at wants comes = absurd comes
  came_shown (Keys change) (Went (Keys next)) at wants comes =
      all_of (went_shown held mine leaves within at comes) leaves.settings (no_more new.rows was_world.rows comes.adds.rows)
  came_shown (Record change key after) Done at wants comes = absurd (let none = comes.1 in cc)
  came_shown (Keys change) Done at wants comes =
      all_of (done_shown held mine leaves within at comes.0 comes.1) leaves.settings (no_more new.rows was_world.rows comes.0.rows)
  came_shown (Record change key after) (Hindered same why) at wants comes =
      all_of (given_up_shown held mine leaves within at (hindrance_of why) (lacking why wants) comes.0) leaves.settings
      (no_more new.rows was_world.rows comes.0.rows)
  came_shown (Keys change) (Hindered same why) at wants comes =
      all_of (given_up_shown held mine leaves within at (hindrance_of why) (lacking why wants) comes.0) leaves.settings
      (no_more new.rows was_world.rows comes.0.rows)

-- A step is made of the change at the desk of the session, which may write.
module _ (s : ℕ) {store : Store} {new : WorldState} {change : RowChange} {doing : Doing} {answer : Changed}
    (step : StepsChange s change store.world new doing answer) (kept : IsKept store) (mine : store.writer ≡ Some s)
    (at : doing_at s store.desks ≡ Changing change) (was : IsTold store.world) (told : IsTold new) (few : length new.past < 2 ^ 63) where
  is_made : MakesChange s store new change step.reached
  is_made = change_made kept.held mine at step.made was told few

  within : s < length store.desks
  within = changes_at_a_desk s store.desks at

  abbrev made : Store
  made = record store { world = new; desks = with_doing s doing store.desks }

  -- the same of what the step was made to
  as_made : (P : Store → Type 0) → P (made_to s store new change step.reached) → P made
  as_made P holds = subst (λ (d : Doing). P (record store { world = new; desks = with_doing s d store.desks })) (sym step.doing_is) holds

  mine_kept : IsKept made
  mine_kept = record { held = as_made IsHeld is_made.held; awaits = nobody_then kept.awaits step.awaits }

  mine_shown : ChangesIn s (lists_of store) (lists_of made) answer
  mine_shown =
      as_made (λ now. ChangesIn s (lists_of store) (lists_of now) answer) (subst (λ (a : Changed). ChangesIn s (lists_of store)
      (lists_of (made_to s store new change step.reached)) a) (sym step.answer_is)
      (came_shown kept.held mine is_made.leaves within change step.reached at step.wants is_made.comes))

untold_if : (schemas : List Schema) (left : ℕ) (change : RowChange) {asks : Change} → asked (shown schemas left (Changing change)) ≡ Some asks
    → is_told change ≡ false
untold_if schemas left (Record change key after) is = refl
untold_if schemas left (Keys change) is = absurd (cc)

changing_shown : (schemas : List Schema) (left : ℕ) (doing : Doing) → is_changing (shown schemas left doing) ≡ true
    → (change : RowChange) × (doing ≡ Changing change)
changing_shown schemas left Nothing is = absurd (cc)
changing_shown schemas left (Searching on) is = absurd (cc)
changing_shown schemas left (Changing change) is = (change, refl)
changing_shown schemas left Lagging is = absurd (cc)
changing_shown schemas left Undoing is = absurd (cc)

-- The session may write, and a step is made of the change at its desk.
module _ (s : ℕ) {store : Store} {lists : Lists} (kept : IsKept store) (view : lists_of store ≡ lists) (locked : lists.state.writer ≡ Some s) where
  abbrev old : WorldState
  old = store.world

  its : store.writer ≡ Some s
  its = writer_now s kept view locked

  module _ {new : WorldState} (was : IsTold old) (told : IsTold new) (few : length new.past < 2 ^ 63) {change : RowChange}
      (at : doing_at s store.desks ≡ Changing change) {doing : Doing} {answer : Changed} (step : StepsChange s change old new doing answer)
      {later : List Desk} (gives : later ≡ with_doing s doing store.desks) where
    abbrev now : Store
    now = record store { world = new; desks = later }

    pub step_kept : IsKept now
    step_kept = subst (λ (ds : List Desk). IsKept (record store { world = new; desks = ds })) (sym gives) (mine_kept s step kept its at was told few)

    pub step_shown : ChangesIn s lists (lists_of now) answer
    step_shown =
        subst (λ (l : Lists). ChangesIn s l (lists_of now) answer) view (subst (λ (ds : List Desk). ChangesIn s (lists_of store)
        (lists_of (record store { world = new; desks = ds })) answer) (sym gives) (mine_shown s step kept its at was told few))

    -- a change that was asked for and is given up is nothing
    pub step_stops : (asks : Change) → asked (task_of s lists.state) ≡ Some asks → answer ≡ stepped.Hindered hindrances.NoMemory
        → Turns s Idle lists.state (lists_of now).state
    step_stops asks asked_is is =
        subst (λ (o : Option Change). Turns s (left_by o) lists.state (lists_of now).state) asked_is
        (subst (Changes s lists.state (lists_of now).state) is step_shown.changes).1

  -- what it has under way, where that is known
  pub its_change : {change : RowChange} → doing_at s store.desks ≡ Changing change
      → (chains : Chains) × (beside : Said) × IsChangingRow s chains beside old change
  its_change {change} at = (kept.held.chains, beside_of kept.held s, changing_row kept.held its change at)

  pub its_untold : {change : RowChange} {asks : Change} → doing_at s store.desks ≡ Changing change → asked (task_of s lists.state) ≡ Some asks
      → is_told change ≡ false
  its_untold {change} at asks =
      let left = left_in old (desk_at s store.desks) in
      untold_if old.schemas left change (ap (λ (d : Doing). asked (shown old.schemas left d)) (sym at) ∙ (ap asked (sym (task_is s store))
      ∙ (ap (λ (l : Lists). asked (task_of s l.state)) view ∙ asks)))

  -- a row that it is to remove is there
  module _ (removes : (asks : Change) → asked (task_of s lists.state) ≡ Some asks → RemovesOne s lists.state.past asks) where
    shows_there : (table : ℕ) (edit : RowEdit) → RemovesOne s old.past (change_of table edit) → IsThereToRemove kept.held.chains table edit
    shows_there table (Put row) seen = record {}
    shows_there table (Remove value) seen =
        let place : Place = record { table = table; key = value } in
        ap is_some (newest_seen kept.held.chains old kept.held.agrees s place (alone_at kept.held its place)) ∙ seen

    its_row : (change : RowChange) → doing_at s store.desks ≡ Changing change → RemovesRow kept.held.chains change
    its_row (Keys change) at = record {}
    its_row (Record change key after) at =
        let edit = change_of change.table change.edit in
        let asks : asked (task_of s lists.state) ≡ Some edit =
        ap (λ (l : Lists). asked (task_of s l.state)) (sym view) ∙ (ap asked (task_is s store)
        ∙ ap (λ (d : Doing). asked (shown old.schemas (left_in old (desk_at s store.desks)) d)) at) in
        shows_there change.table change.edit (past_here s kept view (λ h. RemovesOne s h edit) (removes edit asks))

    may_go_on : {change : RowChange} → doing_at s store.desks ≡ Changing change → MayGoOn s old change
    may_go_on {change} at = record {
      chains = kept.held.chains;
      beside = beside_of kept.held s;
      changing = changing_row kept.held its change at;
      removes = its_row change at;
      nobody = kept.awaits;
    }

  module _ (changing : is_changing (task_of s lists.state) ≡ true) where
    -- who shows that it changes a row has a change under way
    under_way : (change : RowChange) × (doing_at s store.desks ≡ Changing change)
    under_way =
        changing_shown old.schemas (left_in old (desk_at s store.desks)) (doing_at s store.desks) (subst (λ (t : Task). is_changing t ≡ true)
        (task_is s store) (subst (λ (l : Lists). is_changing (task_of s l.state) ≡ true) (sym view) changing))

    pub may_change : ((asks : Change) → asked (task_of s lists.state) ≡ Some asks → RemovesOne s lists.state.past asks) → HasChange s old store.desks
    may_change removes = (under_way.0, under_way.1, may_go_on removes under_way.1)

    module _ {new : WorldState} (was : IsTold old) (told : IsTold new) (few : length new.past < 2 ^ 63) {later : List Desk} {answer : Changed}
        (made : StepsAtDesk s old new store.desks later answer) where
      pub desk_kept : IsKept (record store { world = new; desks = later })
      desk_kept = let step = made under_way.0 under_way.1 in step_kept was told few under_way.1 step.1 step.2

      pub desk_shown : ChangesIn s lists (lists_of (record store { world = new; desks = later })) answer
      desk_shown = let step = made under_way.0 under_way.1 in step_shown was told few under_way.1 step.1 step.2

pub none_entered : (new old : ℕ) → new ≡ old + 0 → new ≡ old
none_entered new old same = omega (arith, same)
