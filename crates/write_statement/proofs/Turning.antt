-- Steps that add no entry: of a search, and those that give a statement up.
use Rattle.std.proofs.Common.{◌≡◌, ℕ, ◌+◌, ◌<◌, Bool, true, Option, Some, List, [], ◌∷◌, ◌++◌, Vec, length, refl, sym, ap, subst, ◌∙◌, inl}
use Rattle.std.specs.Prelude.{slice_get}
use Rattle.std.specs.declared.alloc.Global.{Global}
use Rattle.inno_types.specs.declared.value.Value.{Value}
use Rattle.inno_types.specs.declared.value.Schema.{Schema}
use Rattle.inno_types.specs.declared.stmt.Stmt.{Stmt}
use Rattle.inno_db.specs.Database.{Database}
use Rattle.inno_db.specs.declared.outcome.Outcome.{Outcome}
use Rattle.inno_db.specs.declared.change.Change.{Change}
use Rattle.inno_db.specs.declared.change.Change.TheVariants.{Put}
use Rattle.inno_model.specs.declared.event.Event.{Event}
use Rattle.inno_model.specs.declared.event.Event.TheVariants.{Changed}
use Rattle.inno_model.specs.Past.{own, started, commits}
use Rattle.shared_lists.specs.declared.answers.Reading.TheVariants.{Newest}
use Rattle.shared_lists.specs.Answers.{Searched}
use Rattle.store_api.specs.declared.stepped.Stepped.TheVariants as stepped
use Rattle.shared_lists.specs.Tasks.{Task, Idle, Searching, is_changing, asked}
use Rattle.shared_lists.specs.State.{State, Turns, Stays, task_of}
use Rattle.shared_lists.specs.Steps.{AreRowsSeen, Searches, IsLacking}
use Rattle.shared_lists.specs.declared.answers.Hindrance.{Hindrance}
use Rattle.shared_lists.specs.declared.answers.Hindrance.TheVariants as hindrances
use Rattle.sql_history.specs.Counts.{rows_of_entry, rows_kept, most_rows}
use Rattle.law_past_agreement.specs.Order.{created, IsOfRow}
use Rattle.sql_plan.specs.declared.choice.Plan.{Plan}
use Rattle.sql_lists.specs.Steps.{Steps, Moves}
use Rattle.sql_lists.specs.declared.advance.Advance.{Advance}
use Rattle.sql_lists.specs.declared.advance.Advance.TheVariants as advance
use Rattle.sql_lists.proofs.Moving.{moves_turns, moves_stays, moves_none, carried}
use Rattle.write_statement.specs.declared.machine.Part.{Part}
use Rattle.write_statement.specs.declared.machine.WriteStatement.{WriteStatement}
use Rattle.giving_up.specs.declared.leaving.Leaving.TheVariants as leaving
use Rattle.write_statement.specs.declared.machine.WriteStatement.TheVariants as machine
use Rattle.sql_plan.specs.Planning.{IsPlanFor}
use Rattle.write_statement.specs.Parts.{of_part, of_rest}
use Rattle.giving_up.specs.Leaving.{IsBackingOut, MayGoBack, given_up, given_up_for}
use Rattle.write_statement.specs.Going.{advance_for}
use Rattle.write_statement.specs.Running.{IsEarly, IsReading, IsSearching, IsFound, IsChanging, IsRunning}
use Rattle.giving_up.proofs.Moving.{steps_as}
use Rattle.write_statement.proofs.GivingUp.{early_no_memory, changing_hindered, broken_off, overfull}

pub turns_none : (s : ℕ) (state : State) → task_of s state ≡ Idle → Turns s Idle state state
turns_none s state idle = record { names_are = refl; past_is = refl; writer_is = refl; task_is = idle; others = λ t differ. refl }

-- where nothing has changed, nothing is under way still
pub turns_stayed : (s : ℕ) (old new : State) → Stays s old new → task_of s old ≡ Idle → Turns s Idle old new
turns_stayed s old new stays idle =
    record { names_are = stays.names_are; past_is = stays.past_is; writer_is = stays.writer_is; task_is = stays.task_is ∙ idle; others = stays.others }

-- ---- given up

-- a step that changes nothing, for whatever it lacks
leaves_by : (s : ℕ) (old new : State) (m : WriteStatement) (why : Hindrance) → Moves s old new → IsRunning new s m → new.past ≡ old.past
    → Steps IsRunning s old new m (advance_for why)
leaves_by s old new m hindrances.NoMemory moves runs same = (moves, runs, same)
leaves_by s old new m other moves runs same = (moves, runs, ap (started s) same)

pub early_given_up : (s : ℕ) (old new : State) (statement : Stmt) (alone : Bool) (before : ℕ) (m : WriteStatement) (a : Advance)
    → IsEarly s statement alone old.past → before ≡ length (own s old.past) → Turns s Idle old new
    → m ≡ machine.Leaving (leaving.BackingOut (given_up alone before)) → a ≡ advance.NoMemory → Steps IsRunning s old new m a
early_given_up s old new statement alone before m a early before-is turns state answer =
    steps_as IsRunning s old new m (machine.Leaving (leaving.BackingOut (given_up alone before))) a advance.NoMemory state answer (
      moves_turns s Idle old new turns,
      early_no_memory new.past new.writer (task_of s new) s statement alone before (subst (IsEarly s statement alone) (sym turns.past_is) early)
          (before-is ∙ ap (λ h. length (own s h)) (sym turns.past_is)) turns.task_is,
      turns.past_is,
    )

-- amid its changes
pub changing_given_up_for : (s : ℕ) (old new : State) (task : Task) (part : Part) (next : Database → Outcome) (todo : List Change) (why : Hindrance)
    (m : WriteStatement) (a : Advance) → IsLacking why → IsChanging old.past old.writer s part next todo → Turns s task old new
    → MayGoBack part.before s old.past task → m ≡ machine.Leaving (leaving.BackingOut (given_up_for why part.alone part.before)) → a ≡ advance_for why
    → Steps IsRunning s old new m a
changing_given_up_for s old new task part next todo why m a lacks r turns back state answer =
    let work = given_up_for why part.alone part.before in
    let given : IsBackingOut new.past new.writer s work =
    subst (λ h. IsBackingOut h new.writer s work) (sym turns.past_is)
    (subst (λ w. IsBackingOut old.past w s work) (sym turns.writer_is) (changing_hindered old.past old.writer s part next todo why lacks r)) in
    let goes : MayGoBack part.before s new.past (task_of s new) =
    subst (λ h. MayGoBack part.before s h (task_of s new)) (sym turns.past_is) (subst (MayGoBack part.before s old.past) (sym turns.task_is) back) in
    steps_as IsRunning s old new m (machine.Leaving (leaving.BackingOut work)) a (advance_for why) state answer
    (leaves_by s old new (machine.Leaving (leaving.BackingOut work)) why (moves_turns s task old new turns) (given, goes) turns.past_is)

pub changing_given_up : (s : ℕ) (old new : State) (task : Task) (part : Part) (next : Database → Outcome) (todo : List Change) (m : WriteStatement)
    (a : Advance) → IsChanging old.past old.writer s part next todo → Turns s task old new → MayGoBack part.before s old.past task
    → m ≡ machine.Leaving (leaving.BackingOut (given_up part.alone part.before)) → a ≡ advance.NoMemory → Steps IsRunning s old new m a
changing_given_up s old new task part next todo m a r turns back state answer =
    changing_given_up_for s old new task part next todo hindrances.NoMemory m a tt r turns back state answer

-- its reply is that the history would hold too many rows
pub broke_off : (s : ℕ) (state : State) (part : Part) (next : Database → Outcome) (todo : List Change) (change : Change) (table : ℕ) (row : List Value)
    (rows : ℕ) (m : WriteStatement) (a : Advance) → IsChanging state.past state.writer s part next (todo ++ change ∷ []) → task_of s state ≡ Idle
    → change ≡ Put table row → most_rows < rows → rows ≡ rows_kept state.past + 1 → m ≡ machine.Leaving (leaving.BackingOut (broken_off part rows))
    → a ≡ advance.Went
    → Steps IsRunning s state state m a
broke_off s state part next todo change table row rows m a r idle puts many count answer-state answer =
    let here = subst (λ (x : Change). IsChanging state.past state.writer s part next (todo ++ x ∷ [])) puts r in
    steps_as IsRunning s state state m (machine.Leaving (leaving.BackingOut (broken_off part rows))) a advance.Went answer-state answer
    (moves_none s state, (overfull state.past state.writer s part next todo table row rows here many count, inl idle), refl)

-- ---- a change is begun

pub begun : (s : ℕ) (old new : State) (part : Part) (todo : Vec Change Global) (change : Change) (rows : ℕ)
    → IsChanging old.past old.writer s part (of_rest part) (todo.items ++ change ∷ []) → IsOfRow change → rows ≡ rows_of_entry (Changed s change)
    → Turns s (task_of s new) old new → is_changing (task_of s new) ≡ true → asked (task_of s new) ≡ Some change
    → Steps IsRunning s old new (machine.Making part todo rows) advance.Went
begun s old new part todo change rows r of-row rows-are turns under-way asked-is =
    let there : IsChanging new.past new.writer s part (of_rest part) (todo.items ++ change ∷ []) =
    subst (λ h. IsChanging h new.writer s part (of_rest part) (todo.items ++ change ∷ [])) (sym turns.past_is)
    (subst (λ w. IsChanging old.past w s part (of_rest part) (todo.items ++ change ∷ [])) (sym turns.writer_is) r) in (
      moves_turns s (task_of s new) old new turns,
      record { change = change; of_row = of-row; rows_are = rows-are; changing = there; under_way = under-way; asked_is = asked-is },
      ap (started s) turns.past_is,
    )

-- ---- the search

pub begins_search : (s : ℕ) (old new : State) (part : Part) (plan : Plan) (schemas : List Schema) → IsChanging old.past old.writer s part (of_part part) []
    → schemas ≡ created old.past → IsPlanFor schemas part.table part.stmt plan → Turns s (Searching part.table plan Newest) old new
    → Steps IsRunning s old new (machine.Searching part) advance.Went
begins_search s old new part plan schemas changing tables p turns =
    let here : IsSearching old.past old.writer (Searching part.table plan Newest) s part =
    record {
      reading = record {
        changing = changing;
        schema = p.schema;
        there = ap (λ known. slice_get known part.table) (sym tables) ∙ p.there;
        plan = plan;
        enough = p.enough;
      };
      task_is = refl;
    } in
    let there : IsSearching new.past new.writer (task_of s new) s part =
    subst (λ h. IsSearching h new.writer (task_of s new) s part) (sym turns.past_is)
    (subst (λ w. IsSearching old.past w (task_of s new) s part) (sym turns.writer_is)
    (subst (λ task. IsSearching old.past old.writer task s part) (sym turns.task_is) here)) in
    (moves_turns s (Searching part.table plan Newest) old new turns, there, ap (started s) turns.past_is)

pub search_went : (s : ℕ) (old new : State) (part : Part) → IsSearching old.past old.writer (task_of s old) s part → Stays s old new
    → Steps IsRunning s old new (machine.Searching part) advance.Went
search_went s old new part r stays = (
  moves_stays s old new stays,
  carried (λ h w task. IsSearching h w task s part) s old new stays r,
  ap (started s) stays.past_is,
)

-- what is known of a search, by its answer
pub searches_as : (s : ℕ) (old new : State) (part : Part) (answer other : Searched) → (r : IsSearching old.past old.writer (task_of s old) s part)
    → answer ≡ other → Searches part.table r.reading.plan Newest s old new answer → Searches part.table r.reading.plan Newest s old new other
searches_as s old new part answer other r is searches = subst (Searches part.table r.reading.plan Newest s old new) is searches

-- its rows
abbrev HasFound : (s : ℕ) (part : Part) (rows : List (List Value)) (past : List Event) (writer : Option ℕ) → Type 0
HasFound s part rows past writer = (reading : IsReading past writer s part) × AreRowsSeen part.table reading.plan past s (commits past) rows

pub search_found : (s : ℕ) (old new : State) (part : Part) (rows : List (List Value)) (r : IsSearching old.past old.writer (task_of s old) s part)
    → Searches part.table r.reading.plan Newest s old new (stepped.Done rows) → IsFound new s part rows
search_found s old new part rows r searches =
    let turns = searches.0 in
    let there : HasFound s part rows new.past new.writer =
    subst (λ h. HasFound s part rows h new.writer) (sym turns.past_is)
    (subst (λ w. HasFound s part rows old.past w) (sym turns.writer_is) (r.reading, searches.1)) in
    record { reading = there.0; idle = turns.task_is; found = there.1 }
