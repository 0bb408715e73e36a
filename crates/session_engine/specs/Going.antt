-- A step that went did work: what its session has before it at most, a list of sixteen numbers, gets smaller.
use Rattle.std.specs.Prelude.{ℕ, List, ◌∷◌}
use Rattle.store_api.specs.declared.answers.Progress.{Progress}
use Rattle.store_api.specs.declared.answers.Progress.TheVariants as progress
use Rattle.shared_lists.specs.State.{State as Lists}
use Rattle.sql_lists.specs.Going.{left, to_roll_back}
use Rattle.inno_types.specs.Order.{IsBelow}
use Rattle.statement.specs.Going.{statement_to_go}
use Rattle.session_engine.specs.declared.seats.Seat.{Seat}
use Rattle.session_engine.specs.declared.seats.Seat.TheVariants as seats
use Rattle.session_engine.specs.Seats.{State, seat_at}

-- what a seat has before it at most
abbrev pub seat_to_go : ℕ → Lists → Seat → List ℕ
seat_to_go s lists seats.Idle = 0 ∷ left 0 0 0 0
seat_to_go s lists (seats.Busy statement) = statement_to_go s lists statement
seat_to_go s lists (seats.Refused at) = 0 ∷ left 0 0 0 0
seat_to_go s lists (seats.Signalling item) = 0 ∷ left 0 0 0 0
seat_to_go s lists seats.Leaving = 0 ∷ to_roll_back s lists
seat_to_go s lists seats.Left = 0 ∷ left 0 0 0 0

-- what the session has before it at most
abbrev pub to_go : ℕ → State → List ℕ
to_go s state = seat_to_go s state.lists (seat_at state.seats s)

-- a step that went makes it smaller
abbrev pub Nears : ℕ → Progress → State → State → Type 0
Nears s progress.Went old new = IsBelow (to_go s new) (to_go s old)
Nears s other old new = Unit {0}

-- So does a step that found no memory: its statement gives up. An item that gives a signal or awaits one ends then, and the
-- session's ending never finds no memory.
abbrev pub NearsLacking : ℕ → Progress → State → State → Type 0
NearsLacking s progress.NoMemory old new = IsBelow (to_go s new) (to_go s old)
NearsLacking s other old new = Unit {0}

-- a step of the ending that went makes it smaller, too
abbrev pub NearsEnding : ℕ → Lists → Lists → Progress → Type 0
NearsEnding s old new progress.Went = IsBelow (to_roll_back s new) (to_roll_back s old)
NearsEnding s old new other = Unit {0}
