-- What the steps of a session's task do, by their answers.
use Rattle.std.specs.Prelude.{◌≡◌, ◌⊎◌, ℕ, ◌<◌, true, List, ◌∷◌, filter, slice_get, Option, Some, None}
use Rattle.inno_types.specs.{declared.value.Value.Value, declared.value.Schema.Schema}
use Rattle.inno_db.specs.{Database.rows_of, declared.change.Change.Change, declared.change.Change.TheVariants.Put}
use Rattle.inno_model.specs.declared.event.Event.{Event}
use Rattle.inno_model.specs.declared.event.Event.TheVariants as events
use Rattle.inno_model.specs.Past.{changed, commits, view_of}
use Rattle.law_past_agreement.specs.{Order.created, Rows.seen, DatabaseTables.with_all_tables}
use Rattle.sql_plan.specs.{declared.choice.Plan.Plan, Plans.whole_index, Visits.index_key}
use Rattle.inno_types.specs.Ranges.{is_within}
use Rattle.shared_lists.specs.{declared.answers.Reading.Reading, declared.answers.Reading.TheVariants.View, declared.answers.Reading.TheVariants.Newest}
use Rattle.store_api.specs.declared.stepped.Stepped.TheVariants as stepped
use Rattle.shared_lists.specs.declared.answers.ChangePart.TheVariants as part
use Rattle.shared_lists.specs.declared.answers.Hindrance.{Hindrance}
use Rattle.shared_lists.specs.declared.answers.Hindrance.TheVariants.{NoMemory, Full}
use Rattle.shared_lists.specs.Answers.{Searched, Changed, Undone}
use Rattle.shared_lists.specs.Tasks.{Task, Idle, Undoing, is_changing, asked, steps_left, left_by, undo_to_go}
use Rattle.shared_lists.specs.State.{State, task_of, IsNow, Turns}

-- ---- what hinders them

-- pages are lacking only where fewer are free than are needed
abbrev pub IsLacking : Hindrance → Type 0
IsLacking (Full need free) = free < need
IsLacking other = Unit {0}

-- ---- searches

-- the rows whose key in the plan's index lies in its range
abbrev pub rows_in_range : Plan → Schema → List (List Value) → List (List Value)
rows_in_range plan schema rows = filter (λ row. is_within plan.range (index_key schema plan.which row)) rows

-- These are the rows of the table, in the order of their keys, that a plan asks for, in what a session sees of the first
-- n commits.
abbrev pub AreRowsSeen : ℕ → Plan → List Event → ℕ → ℕ → List (List Value) → Type 0
AreRowsSeen table plan past s n rows =
    (schema : Schema) → slice_get (created past) table ≡ Some schema
    → rows ≡ rows_in_range plan schema (rows_of table (changed (with_all_tables past) (seen past s n)))

-- The latest rows, in the plan's range or all of them, where one session alone has changes.
abbrev pub AreNewestRows : ℕ → Plan → List Event → ℕ → List (List Value) → Type 0
AreNewestRows table plan past writer rows =
    AreRowsSeen table plan past writer (commits past) rows ⊎ AreRowsSeen table whole_index past writer (commits past) rows

-- by the session's view, or the latest rows
abbrev pub AreFoundBy : Reading → ℕ → Plan → List Event → ℕ → List (List Value) → Type 0
AreFoundBy View table plan past s rows = (n : ℕ) → view_of s past ≡ Some n → AreRowsSeen table plan past s n rows
AreFoundBy Newest table plan past s rows = AreRowsSeen table plan past s (commits past) rows

-- a search goes on, or is over
abbrev pub Searches : ℕ → Plan → Reading → ℕ → State → State → Searched → Type 0
Searches table plan reading s old new stepped.Went = Turns s (task_of s old) old new
Searches table plan reading s old new (stepped.Done rows) = Turns s Idle old new × AreFoundBy reading table plan old.past s rows
Searches table plan reading s old new (stepped.Hindered why) = (why ≡ NoMemory) × Turns s Idle old new

-- ---- changes

-- the change is the same, some steps nearer
pub record GoesOn (s : ℕ) (old new : State) : Type 0 where
  pub turns : Turns s (task_of s new) old new
  pub still : is_changing (task_of s new) ≡ true
  pub asked_is : asked (task_of s new) ≡ asked (task_of s old)
  pub nears : steps_left (task_of s new) < steps_left (task_of s old)

-- the history tells it now, and keys are yet to take it over
pub record Enters (s : ℕ) (old new : State) : Type 0 where
  pub change : Change
  pub asked_was : asked (task_of s old) ≡ Some change
  pub now : IsNow (events.Changed s change ∷ old.past) s (task_of s new) old.writer old new
  pub still : is_changing (task_of s new) ≡ true
  pub asked_is : asked (task_of s new) ≡ None

abbrev pub Changes : ℕ → State → State → Changed → Type 0
Changes s old new stepped.Went = GoesOn s old new
Changes s old new (stepped.Done part.Record) = Enters s old new
Changes s old new (stepped.Done part.Keys) = (asked (task_of s old) ≡ None) × Turns s Idle old new
Changes s old new (stepped.Hindered why) = IsLacking why × Turns s (left_by (asked (task_of s old))) old new

-- how many rows the history holds more where it tells the change
abbrev pub rows_of_change : Option Change → ℕ
rows_of_change (Some (Put table row)) = 1
rows_of_change other = 0

abbrev pub rows_entered : Changed → Task → ℕ
rows_entered (stepped.Done part.Record) task = rows_of_change (asked task)
rows_entered other task = 0

-- ---- taking back

abbrev pub TakesBack : ℕ → ℕ → State → State → Undone → Type 0
TakesBack s keep old new stepped.Went =
    Turns s (task_of s new) old new × ((left : ℕ) × (task_of s new ≡ Undoing left)) × (undo_to_go (task_of s new) < undo_to_go (task_of s old))
TakesBack s keep old new (stepped.Done over) = IsNow (events.Undone s keep ∷ old.past) s Idle old.writer old new
TakesBack s keep old new (stepped.Hindered never) = ⊥
