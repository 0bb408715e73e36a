-- What threads see of an engine that they share, and what holds of it between its calls.
use Rattle.std.specs.Prelude.{◌≡◌, ℕ, ◌+◌, ◌≤◌, Option, None, Some, List, [], ◌∷◌, length}
use Rattle.inno_types.specs.declared.reply.Item.{Item}
use Rattle.inno_model.specs.declared.event.Event.{Event}
use Rattle.inno_model.specs.Past.{under_way}
use Rattle.inno_model.specs.declared.board.Board.{Board}
use Rattle.inno_model.specs.declared.board.Phase.{Phase}
use Rattle.inno_model.specs.declared.board.Phase.TheVariants.{Idle, Busy, Leaving, Left}
use Rattle.durable_engine.specs.declared.stopped_seats.Seat.{Seat}
use Rattle.durable_engine.specs.Seats.{phase_at}
use Rattle.durable_engine.specs.State.{State}

-- a session at work has an item under way, or is on its way out
abbrev pub working_on : Option Item → Phase
working_on None = Leaving
working_on (Some item) = Busy

-- How far a session is. Its seat says whether it is at work or has left, and the past says at what.
abbrev pub shown : List Event → ℕ → Phase → Phase
shown past s Idle = Idle
shown past s Busy = working_on (under_way s past)
shown past s Leaving = working_on (under_way s past)
shown past s Left = Left

-- the same of these seats, the first of which is session s's
abbrev pub all_shown : List Event → ℕ → List Seat → List Phase
all_shown past s [] = []
all_shown past s (seat ∷ seats) = shown past s seat.phase ∷ all_shown past (s + 1) seats

abbrev pub board_of : {D : Type 0} → State D → Board
board_of state = record { names = state.names; past = state.past; phases = all_shown state.past 0 state.seats }

-- no item of an idle session is under way, and one that hasn't joined is idle
pub record AreAtRest {D : Type 0} (state : State D) : Type 0 where
  pub rests : (s : ℕ) → phase_at state.seats s ≡ Idle → under_way s state.past ≡ None
  pub unjoined : (s : ℕ) → length state.names ≤ s → phase_at state.seats s ≡ Idle
