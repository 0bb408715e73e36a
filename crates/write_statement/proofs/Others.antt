-- An entry of another session leaves what the machine knows.
use Rattle.std.proofs.Common.{◌≡◌, ◌≢◌, ◌<◌, ℕ, Bool, false, Some, List, [], ◌∷◌, ◌++◌, length, reverse, refl, sym, ap, subst, ◌∙◌, inl}
use Rattle.std.proofs.Common.{inr}
use Rattle.std.specs.Prelude.{slice_get}
use Rattle.inno_types.specs.declared.value.Schema.{Schema}
use Rattle.inno_types.specs.declared.stmt.Stmt.{Stmt}
use Rattle.inno_db.specs.Database.{Database}
use Rattle.inno_db.specs.declared.outcome.Outcome.{Outcome}
use Rattle.inno_db.specs.declared.change.Change.{Change}
use Rattle.inno_db.specs.declared.change.Change.TheVariants as changes
use Rattle.inno_db.specs.Outcome.{table_read}
use Rattle.inno_model.specs.declared.event.Event.{Event}
use Rattle.inno_model.specs.declared.event.Event.TheVariants as events
use Rattle.inno_model.specs.Past.{own}
use Rattle.sql_history.specs.Items.{own_before, base, undoes}
use Rattle.sql_history.specs.Legal.{IsWriting}
use Rattle.shared_lists.specs.Tasks.{is_changing, asked}
use Rattle.shared_lists.specs.State.{State, task_of}
use Rattle.law_past_agreement.specs.Order.{created, IsNoOthers}
use Rattle.sql_lists.specs.Steps.{StaysRunning, changes_rows}
use Rattle.sql_lists.proofs.Moving.{AddingOne, stays_running}
use Rattle.law_claims.specs.Claims.{Tables, Basis, Keeps, KeepsBasis, Stands}
use Rattle.law_claims.proofs.Keeping.{spares_rows}
use Rattle.write_statement.specs.declared.machine.Part.{Part}
use Rattle.write_statement.specs.declared.machine.WriteStatement.{WriteStatement}
use Rattle.write_statement.specs.declared.machine.WriteStatement.TheVariants as machine
use Rattle.write_statement.specs.Parts.{IsCut, GoesOnWith, behind, of_part, of_rest}
use Rattle.giving_up.specs.Leaving.{IsWorking}
use Rattle.write_statement.specs.Running.{GoesOn, IsUnrefused, IsEarly, IsChanging, IsReading, IsMaking}
use Rattle.write_statement.specs.Running.{basis_for, IsFinishing, IsRunning}
use Rattle.plain_sql.proofs.MoreTables.{more_tables}
use Rattle.giving_up.proofs.Touched.{touched_later}
use Rattle.giving_up.proofs.Others as laws
use Rattle.plain_sql.specs.Finding.{IsOnRows}
use Rattle.giving_up.proofs.Writing.{of_writing}

no_table_more : (e : Event) (h : List Event) (t : ℕ) → IsNoOthers t e → changes_rows e ≡ false → created (e ∷ h) ≡ created h
no_table_more (events.Opened db) h t mine spares = cc
no_table_more (events.Changed u change) h t mine spares = cc
no_table_more e h t mine spares = refl

reads_rows : (statement : Stmt) → IsWriting statement → IsOnRows statement
reads_rows = of_writing IsOnRows (λ table columns tuples. tt) (λ table sets condition. tt) (λ table condition. tt)

-- a table more at most
unrefused_then : (e : Event) (h : List Event) (t : ℕ) → IsNoOthers t e → (statement : Stmt) → IsWriting statement → IsUnrefused statement h
    → IsUnrefused statement (e ∷ h)
unrefused_then (events.Opened db) h t mine statement writes none = (let opened = mine in cc)
unrefused_then (events.Changed u (changes.Create schema)) h t mine statement writes none =
    more_tables (created h) (schema ∷ []) statement (reads_rows statement writes) none
unrefused_then (events.Changed u (changes.Put table row)) h t mine statement writes none = none
unrefused_then (events.Changed u (changes.Remove table key)) h t mine statement writes none = none
unrefused_then e h t mine statement writes none = none

module _ (old new : State) (t s : ℕ) (differ : t ≢ s) (adding : AddingOne t old new) (keeps : old.writer ≡ Some s → new.writer ≡ Some s)
    (task-is : task_of s new ≡ task_of s old) where
  -- ---- what is the session's own stays so, by the laws of a statement that ends

  own_is : own s new.past ≡ own s old.past
  own_is = laws.own_is old new t s differ adding keeps task-is

  had_is : own_before s new.past ≡ own_before s old.past
  had_is = laws.had_is old new t s differ adding keeps task-is

  working_on : (statement : Stmt) (alone : Bool) → IsWorking s statement alone old.past → IsWorking s statement alone new.past
  working_on = laws.working_on old new t s differ adding keeps task-is

  -- ---- what all share, while something is kept

  module _ (kept : Keeps s Tables old.past old.writer) where
    tables_are : created new.past ≡ created old.past
    tables_are = elim adding [
      | inl same ↦ ap created same
      | inr a ↦ ap created a.2 ∙ no_table_more a.0 old.past t a.1 (spares_rows old new t s differ keeps Tables kept a.0 a.3)
    ]

  -- ---- what refused it not

  unrefused_on : (statement : Stmt) → IsWriting statement → IsUnrefused statement old.past → IsUnrefused statement new.past
  unrefused_on statement writes none =
      elim adding [
        | inl same ↦ subst (IsUnrefused statement) (sym same) none
        | inr a ↦ subst (IsUnrefused statement) (sym a.2) (unrefused_then a.0 old.past t a.1 statement writes none)
      ]

  goes_on : GoesOn s old.past → GoesOn s new.past
  goes_on g = record {
    not_over = laws.over_is old new t s differ adding keeps task-is ∙ g.not_over;
    not_undone = laws.did_is old new t s differ adding keeps task-is undoes ∙ g.not_undone;
  }

  early_on : (statement : Stmt) (alone : Bool) → IsEarly s statement alone old.past → IsEarly s statement alone new.past
  early_on statement alone e =
      record {
        working = working_on statement alone e.working;
        goes_on = goes_on e.goes_on;
        unchanged = own_is ∙ (e.unchanged ∙ sym had_is);
        unrefused = unrefused_on statement e.working.writes e.unrefused;
      }

  -- ---- its states

  changing_on : (part : Part) (next : Database → Outcome) (todo : List Change) → IsChanging old.past old.writer s part next todo
      → IsChanging new.past new.writer s part next todo
  changing_on part next todo r =
      let basis = basis_for r.searched (todo ++ own s old.past) in
      let rows = laws.own_rows old new t s differ adding keeps task-is (reverse r.made) r.own_is r.working.rows_alone in
      let among = touched_later (base s old.past).schemas todo (own s old.past) in
      let Holds : Database → Type 0 = λ db. GoesOnWith r.statement db (r.made ++ reverse todo) next in
      let tables = tables_are (r.keeps Tables tt) in
      let still = ap (λ (changes : List Change). basis_for r.searched (todo ++ changes)) (sym own_is) in
      record {
        statement = r.statement;
        working = working_on r.statement part.alone r.working;
        goes_on = goes_on r.goes_on;
        before_is = r.before_is ∙ ap length (sym had_is);
        tables = tables ∙ (r.tables ∙ sym (laws.schemas_are old new t s differ adding keeps task-is basis r.keeps rows (reverse r.made) r.own_is among));
        writes = r.writes;
        cut = subst (λ (schemas : List Schema). IsCut schemas part.stmt (behind part)) (sym tables) r.cut;
        table_is = ap (λ schemas. table_read schemas part.stmt) tables ∙ r.table_is;
        made = r.made;
        own_is = own_is ∙ (r.own_is ∙ ap (λ changes. reverse r.made ++ changes) (sym had_is));
        searched = r.searched;
        searched_is = r.searched_is;
        keeps =
            subst (λ (g : Basis). KeepsBasis s (base s new.past).schemas g new.past new.writer) still
            (laws.keeps_on old new t s differ adding keeps task-is basis r.keeps rows (reverse r.made) r.own_is among);
        goes =
            subst (λ (g : Basis). Stands g Holds (base s new.past)) still
            (laws.stands_on old new t s differ adding keeps task-is basis r.keeps rows (reverse r.made) r.own_is among Holds r.goes);
      }

  abbrev reading_on : (part : Part) → IsReading old.past old.writer s part → IsReading new.past new.writer s part
  reading_on part r =
      let tables = tables_are (r.changing.keeps Tables tt) in
      record {
        changing = changing_on part (of_part part) [] r.changing;
        schema = r.schema;
        there = ap (λ schemas. slice_get schemas part.table) tables ∙ r.there;
        plan = r.plan;
        enough = r.enough;
      }

  making_on : (part : Part) (todo : List Change) (rows : ℕ) → IsMaking old.past old.writer (task_of s old) s part todo rows
      → IsMaking new.past new.writer (task_of s new) s part todo rows
  making_on part todo rows r =
      record {
        change = r.change;
        of_row = r.of_row;
        rows_are = r.rows_are;
        changing = changing_on part (of_rest part) (todo ++ r.change ∷ []) r.changing;
        under_way = ap is_changing task-is ∙ r.under_way;
        asked_is = ap asked task-is ∙ r.asked_is;
      }

  finishing_on : (part : Part) (todo : List Change) → IsFinishing old.past old.writer (task_of s old) s part todo
      → IsFinishing new.past new.writer (task_of s new) s part todo
  finishing_on part todo r =
      record {
        changing = changing_on part (of_rest part) todo r.changing;
        under_way = ap is_changing task-is ∙ r.under_way;
        told = ap asked task-is ∙ r.told;
        stands = subst (λ (changes : List Change). part.before < length changes) (sym own_is) r.stands;
      }

  -- all that the machine knows
  running_on : (m : WriteStatement) → IsRunning old s m → IsRunning new s m
  running_on (machine.Fresh statement) r = (
    laws.taken_on old new t s differ adding keeps task-is statement r.0,
    r.1,
    task-is ∙ r.2,
    unrefused_on statement r.1 r.3,
  )
  running_on (machine.Locking statement alone) r = (early_on statement alone r.0, task-is ∙ r.1)
  running_on (machine.Searching part) r = record { reading = reading_on part r.reading; task_is = task-is ∙ r.task_is }
  running_on (machine.Changing part todo) r = (changing_on part (of_rest part) todo.items r.0, task-is ∙ r.1)
  running_on (machine.Making part todo rows) r = making_on part todo.items rows r
  running_on (machine.Finishing part todo) r = finishing_on part todo.items r
  running_on (machine.Leaving leaving) r = laws.leaving_on old new t s differ adding keeps task-is leaving r

pub stays : StaysRunning IsRunning
stays = stays_running IsRunning (λ old new t s m differ adding keeps task-is running. running_on old new t s differ adding keeps task-is m running)
