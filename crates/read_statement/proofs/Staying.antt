-- An entry of another session leaves what a SELECT knows as it was.
use Rattle.std.proofs.Common.{◌≡◌, ◌≢◌, ℕ, Bool, true, false, Some, None, List, ◌∷◌, refl, sym, ap, subst, ◌∙◌, inl, inr}
use Rattle.std.specs.Prelude.{is_some}
use Rattle.std.specs.List.{AllByRecursion}
use Rattle.inno_types.specs.declared.stmt.Stmt.{Stmt}
use Rattle.inno_types.specs.declared.value.Schema.{Schema}
use Rattle.inno_db.specs.Refusals.{refusal}
use Rattle.plain_sql.specs.Finding.{IsOnRows}
use Rattle.plain_sql.proofs.MoreTables.{more_tables}
use Rattle.inno_model.specs.declared.event.Event.{Event}
use Rattle.inno_model.specs.Past.{is_of, did, begins_txn, takes_view, level, own, IsOpen}
use Rattle.inno_model.proofs.Untouched.{IsUntouched, untouched}
use Rattle.inno_model.proofs.Commits.{view_within}
use Rattle.sql_history.specs.Readings.{is_plain_select}
use Rattle.sql_plan.specs.declared.choice.Plan.{Plan}
use Rattle.shared_lists.specs.Tasks.{Task}
use Rattle.shared_lists.specs.State.{State, task_of}
use Rattle.sql_lists.specs.Steps.{HasRowsAlone, StaysRunning}
use Rattle.sql_lists.proofs.Moving.{AddingOne, stays_running}
use Rattle.sql_lists.proofs.Staying.{other_of, at_work, within_of_other}
use Rattle.law_past_agreement.specs.Order.{IsOfRow, IsNoOthers, created}
use Rattle.giving_up.proofs.Others.{leaving_on}
use Rattle.read_statement.specs.declared.machine.Read.{Read}
use Rattle.read_statement.specs.declared.machine.Found.{Found}
use Rattle.read_statement.specs.declared.machine.Asked.{Asked}
use Rattle.read_statement.specs.declared.machine.ReadStatement.{ReadStatement}
use Rattle.read_statement.specs.declared.machine.ReadStatement.TheVariants as machine
use Rattle.read_statement.specs.Planning.{IsPlanned}
use Rattle.read_statement.specs.Running.{strays, IsUnrefused, IsOpening, IsIn, IsEarly, HasView, IsSearching, HasFound, IsRunning}
use Rattle.giving_up.proofs.Own.{takes_on}
use Rattle.read_statement.proofs.Selects.{of_plain}
use Rattle.read_statement.proofs.Tables.{grown, tabled_stays}
use Rattle.read_statement.proofs.MoreTables.{planned_stays, rows_seen_stay}

-- a plain SELECT reads rows
on_rows : (stmt : Stmt) → is_plain_select stmt ≡ true → IsOnRows stmt
on_rows = of_plain IsOnRows (λ selected table condition. tt)

module _ (t s : ℕ) (e : Event) (h : List Event) (mine : IsNoOthers t e) (other : is_of s e ≡ false) where
  same : IsUntouched h (e ∷ h) s
  same = untouched e h s other

  did_same : (test : Event → Bool) → did test s (e ∷ h) ≡ did test s h
  did_same test = rw same.entries refl

  rows_alone_on : HasRowsAlone s h → HasRowsAlone s (e ∷ h)
  rows_alone_on rows = subst (AllByRecursion IsOfRow) (sym same.own_is) rows

  unrefused_on : (stmt : Stmt) → is_plain_select stmt ≡ true → IsUnrefused stmt h → IsUnrefused stmt (e ∷ h)
  unrefused_on stmt plain none =
      let more = grown t e h mine in
      subst (λ (schemas : List Schema). refusal schemas stmt ≡ None) (sym more.1) (more_tables (created h) more.0 stmt (on_rows stmt plain) none)

  opening_on : (asked : Asked) → IsOpening h s asked → IsOpening (e ∷ h) s asked
  opening_on asked o =
      record {
        takes = takes_on e h s (within_of_other e s other) asked.stmt o.takes;
        plain = o.plain;
        nothing = same.entries ∙ o.nothing;
        rows_alone = rows_alone_on o.rows_alone;
        autocommit_is = o.autocommit_is;
        level_is = o.level_is;
        unrefused = unrefused_on asked.stmt o.plain o.unrefused;
      }

  in_on : (alone autocommit : Bool) → IsIn alone autocommit s h → IsIn alone autocommit s (e ∷ h)
  in_on true autocommit i = (i.0, ap (level s) same.before ∙ i.1, ap (own s) same.before ∙ i.2, did_same begins_txn ∙ i.3)
  in_on false autocommit (inl i) = inl (same.level_is ∙ (i.0 ∙ ap (level s) (sym same.before)), did_same begins_txn ∙ i.1)
  in_on false autocommit (inr i) = inr (i.0, ap (level s) same.before ∙ i.1, ap (own s) same.before ∙ i.2, did_same begins_txn ∙ i.3)

  early_on : (stmt : Stmt) (alone : Bool) → IsEarly h s stmt alone → IsEarly (e ∷ h) s stmt alone
  early_on stmt alone early =
      record {
        takes = takes_on e h s (within_of_other e s other) stmt early.takes;
        plain = early.plain;
        goes_on = did_same strays ∙ early.goes_on;
        own_is = same.own_is ∙ (early.own_is ∙ ap (own s) (sym same.before));
        before_is =
            same.own_is ∙ (early.before_is ∙ sym (at_work e h s other).own_is);
        in_txn = in_on alone early.takes.setting.autocommit early.in_txn;
        rows_alone = rows_alone_on early.rows_alone;
        unrefused = unrefused_on stmt early.plain early.unrefused;
      }

  abbrev view_on : HasView h s → HasView (e ∷ h) s
  view_on view =
      record {
        l = view.l;
        level_is = same.level_is ∙ view.level_is;
        by_view = view.by_view;
        viewed = λ by-view apart. did_same takes_view ∙ view.viewed
            by-view apart;
        number = view.number;
        view_is = same.view_is ∙ view.view_is;
      }

  open_on : is_some (level s h) ≡ true → is_some (level s (e ∷ h)) ≡ true
  open_on is-open = ap is_some same.level_is ∙ is-open

  planned_on : (stmt : Stmt) (table : ℕ) (plan : Plan) → is_plain_select stmt ≡ true → IsPlanned (created h) stmt table plan
      → IsPlanned (created (e ∷ h)) stmt table plan
  planned_on stmt table plan plain p =
      let more = grown t e h mine in
      subst (λ schemas. IsPlanned schemas stmt table plan) (sym more.1) (planned_stays (created h) more.0 stmt table plan plain p)

  searching_on : (task : Task) (read : Read) → IsSearching h s task read → IsSearching (e ∷ h) s task read
  searching_on task read is =
      record {
        early = early_on read.stmt read.alone is.early;
        is_open = open_on is.is_open;
        view = view_on is.view;
        plan = is.plan;
        planned = planned_on read.stmt read.table is.plan is.early.plain is.planned;
        task_is = is.task_is;
      }

  found_on : (found : Found) → HasFound h s found → HasFound (e ∷ h) s found
  found_on found f =
      let n = f.view.number in
      let within = view_within h s n f.view.view_is in
      record {
        early = early_on found.stmt found.alone f.early;
        is_open = open_on f.is_open;
        view = view_on f.view;
        plan = f.plan;
        planned = planned_on found.stmt found.table f.plan f.early.plain f.planned;
        tabled = tabled_stays t s n e h mine same.own_is within f.tabled;
        rows = rows_seen_stay t s n e h mine same.own_is within f.tabled found.table f.plan f.planned.schema found.rows f.planned.there f.rows;
      }

module _ (old new : State) (t s : ℕ) (differ : t ≢ s) (adding : AddingOne t old new) (keeps : old.writer ≡ Some s → new.writer ≡ Some s)
    (same-task : task_of s new ≡ task_of s old) where
  by_entry : (P : List Event → Type 0) → ((e : Event) → IsNoOthers t e → is_of s e ≡ false → P old.past → P (e ∷ old.past)) → P old.past → P new.past
  by_entry P on was = elim adding [
    | inl same ↦ subst P (sym same) was
    | inr added ↦ subst P (sym added.2) (on added.0 added.1 (other_of added.0 t s added.1 (λ is. differ (sym is))) was)
  ]

  early_then : (stmt : Stmt) (alone : Bool) → IsEarly old.past s stmt alone × IsOpen s old.past → IsEarly new.past s stmt alone × IsOpen s new.past
  early_then stmt alone =
      by_entry (λ h. IsEarly h s stmt alone × IsOpen s h)
      (λ e mine other r. (early_on t s e old.past mine other stmt alone r.0, open_on t s e old.past mine other r.1))

  runs_on : (statement : ReadStatement) → IsRunning old s statement → IsRunning new s statement
  runs_on (machine.Opening asked) r = (by_entry (λ h. IsOpening h s asked) (λ e mine other. opening_on t s e old.past mine other asked) r.0, same-task ∙ r.1)
  runs_on (machine.Open stmt alone) r =
      let early = early_then stmt alone (r.0, r.1) in (
        early.0,
        early.1,
        by_entry (λ h. did takes_view s h ≡ false) (λ e mine other same. did_same t s e old.past mine other takes_view ∙ same) r.2,
        same-task ∙ r.3,
      )
  runs_on (machine.Viewed stmt alone) r =
      let early = early_then stmt alone (r.0, r.1) in
      (early.0, early.1, by_entry (λ h. HasView h s) (λ e mine other view. view_on t s e old.past mine other view) r.2, same-task ∙ r.3)
  runs_on (machine.Searching read) r =
      subst (λ task. IsSearching new.past s task read) (sym same-task)
      (by_entry (λ h. IsSearching h s (task_of s old) read) (λ e mine other. searching_on t s e old.past mine other (task_of s old) read) r)
  runs_on (machine.Found found) r = (by_entry (λ h. HasFound h s found) (λ e mine other. found_on t s e old.past mine other found) r.0, same-task ∙ r.1)
  runs_on (machine.Leaving leaving) r = leaving_on old new t s differ adding keeps same-task leaving r

pub stays : StaysRunning IsRunning
stays = stays_running IsRunning (λ old new t s m differ adding keeps same-task runs. runs_on old new t s differ adding keeps same-task m runs)
