-- What the machine has before it at most, as fifteen numbers that get smaller.
use Rattle.std.specs.Prelude.{ℕ, ◌+◌, ◌*◌, List, length}
use Rattle.shared_lists.specs.Tasks.{steps_left}
use Rattle.shared_lists.specs.State.{State, task_of}
use Rattle.shared_lists.specs.declared.answers.Hindrance.{Hindrance}
use Rattle.shared_lists.specs.declared.answers.Hindrance.TheVariants.{NoMemory}
use Rattle.sql_lists.specs.declared.advance.Advance.{Advance}
use Rattle.sql_lists.specs.declared.advance.Advance.TheVariants as advance
use Rattle.sql_lists.specs.Going.{left, to_search}
use Rattle.inno_types.specs.Order.{IsBelow}
use Rattle.giving_up.specs.Going.{to_leave}
use Rattle.write_statement.specs.Parts.{tuples_of}
use Rattle.write_statement.specs.declared.machine.WriteStatement.{WriteStatement}
use Rattle.write_statement.specs.declared.machine.WriteStatement.TheVariants as machine

-- so many changes are to be made, and behind them so many tuples come
abbrev pub to_change : ℕ → ℕ → List ℕ
to_change later count = left (4 + 2 * later) (3 * count) 0 0

abbrev pub to_go : ℕ → State → WriteStatement → List ℕ
to_go s state (machine.Fresh stmt) = left (7 + 2 * tuples_of stmt) 0 0 0
to_go s state (machine.Locking stmt alone) = left (6 + 2 * tuples_of stmt) 0 0 0
-- the places that its search has before it, and two phases for each tuple behind
to_go s state (machine.Searching part) = to_search (5 + 2 * length part.later.items) s state
to_go s state (machine.Changing part todo) = to_change (length part.later.items) (length todo.items)
-- the steps of the change under way, before the history tells it and behind that
to_go s state (machine.Making part todo rows) =
    left (4 + 2 * length part.later.items) (3 * length todo.items + 2) (steps_left (task_of s state)) 0
to_go s state (machine.Finishing part todo) =
    left (4 + 2 * length part.later.items) (3 * length todo.items + 1) (steps_left (task_of s state)) 0
to_go s state (machine.Leaving leaving) = to_leave s state leaving

-- how the step answers by which a change is given up
abbrev pub advance_for : Hindrance → Advance
advance_for NoMemory = advance.NoMemory
advance_for other = advance.Went

-- A step that went, or that found no memory, leaves less than so much.
abbrev pub IsNearer : List ℕ → ℕ → State → WriteStatement → Advance → Type 0
IsNearer before s new after advance.Went = IsBelow (to_go s new after) before
IsNearer before s new after advance.NoMemory = IsBelow (to_go s new after) before
IsNearer before s new after other = Unit {0}
