-- What the engine is to its callers, and what holds of it at all times.
use Rattle.std.specs.Prelude.{◌≡◌, ℕ, ◌<◌, ◌≤◌, Bool, true, false, Option, None, Some, List, [], length, refl}
use Rattle.std.specs.Coded.{Coded, code_by, coded×, coded_list, coded_option, coded_ℕ}
use Rattle.inno_types.specs.declared.reply.Cause.TheVariants.{Disk}
use Rattle.inno_model.specs.declared.event.Event.{Event}
use Rattle.inno_model.specs.contracts.event.Event as of_event
use Rattle.store_api.specs.Past.{Past}
use Rattle.store_api.specs.Causes.{Rose}
use Rattle.inno_model.specs.declared.board.Phase.TheVariants.{Idle}
use Rattle.law_crashes.specs.Since.{KeepsSince}
use Rattle.commit_log.specs.View.{IsLogging}
use Rattle.session_engine.specs.Places.{HasExactPlaces}
use Rattle.session_engine.specs.Seats.{State as Sessions, state_code as sessions_code, seat_at, since_at as session_since, owes}
use Rattle.durable_engine.specs.declared.stopped_seats.Seat.{Seat}
use Rattle.durable_engine.specs.contracts.stopped_seats.Seat as of_seat
use Rattle.durable_engine.specs.SessionsState.{State as LoggedState}
use Rattle.durable_engine.specs.Seats.{State as StoppedState, phase_at}
use Rattle.durable_engine.specs.StoppedCalls.{is_at_work}
use Rattle.durable_engine.specs.declared.parts.Core.{Core}
use Rattle.durable_engine.specs.declared.parts.Core.TheVariants.{Running, Stopped, Changing}

-- the disk, the names of the sessions, the entries, the newest first, how far each session is, and the sessions with their
-- lists as long as the engine runs
pub record State (D : Type 0) : Type 0 where
  pub disk : D
  pub names : List (List ℕ)
  pub past : List Event
  pub seats : List Seat
  pub running : Option Sessions

abbrev pub state_code : {D : Type 0} → Coded D → Coded (State D)
state_code {D} disk =
    code_by (D × (List (List ℕ) × (List Event × (List Seat × Option Sessions))))
    (coded× disk (coded× (coded_list (coded_list coded_ℕ)) (coded× (coded_list of_event.the_row.coded)
    (coded× (coded_list of_seat.the_row.coded) (coded_option sessions_code)))))
    (λ s. (s.disk, (s.names, (s.past, (s.seats, s.running)))))
    (λ p. record { disk = p.0; names = p.1.0; past = p.1.1.0; seats = p.1.1.1.0; running = p.1.1.1.1 }) (λ _. refl)

abbrev pub running_state : {D : Type 0} → D → LoggedState → State D
running_state disk s =
    record { disk = disk; names = s.sessions.lists.names; past = s.sessions.lists.past; seats = s.seats; running = Some s.sessions }

abbrev pub stopped_state : {D : Type 0} → D → StoppedState → State D
stopped_state disk s = record { disk = disk; names = s.names; past = s.past; seats = s.seats; running = None }

abbrev pub state_of : {D L : Type 0} → D → Core L → State D
state_of disk (Running s) = running_state disk s
state_of disk (Stopped s) = stopped_state disk s
state_of disk Changing = record { disk = disk; names = []; past = []; seats = []; running = None }

-- The log and the disk stand for the history of sessions that run. A stopped engine keeps what its files held, and the places of
-- the syntax errors that were answered; its disk has failed since the mount.
abbrev pub IsKeptRunning : Past → Past → LoggedState → Type 0
IsKeptRunning root now s = IsLogging root now s.sessions.lists.past s.log × (root.faults ≤ now.faults)

abbrev pub IsKept : {L : Type 0} → Past → Past → Core L → Type 0
IsKept root now (Running s) = IsKeptRunning root now s
IsKept root now (Stopped s) = KeepsSince root now s.past × Rose root.faults now.faults × (s.cause ≡ Disk) × HasExactPlaces s.past
IsKept root now Changing = ⊥

abbrev pub IsJoined : {D : Type 0} → ℕ → State D → Type 0
IsJoined s state = s < length state.names

abbrev pub IsIdle : {D : Type 0} → ℕ → State D → Type 0
IsIdle s state = phase_at state.seats s ≡ Idle

-- an item of it is under way, or its ending
abbrev pub IsWorking : {D : Type 0} → ℕ → State D → Type 0
IsWorking s state = is_at_work (phase_at state.seats s) ≡ true

abbrev pub since_of : ℕ → Option Sessions → Option ℕ
since_of s None = None
since_of s (Some sessions) = session_since s sessions

-- Since when the session's item waits for a signal: the moment of its first step. In an engine that has stopped, none waits.
abbrev pub since_at : {D : Type 0} → ℕ → State D → Option ℕ
since_at s state = since_of s state.running

abbrev pub owes_of : ℕ → Option Sessions → Bool
owes_of s None = false
owes_of s (Some sessions) = owes (seat_at sessions.seats s)

-- the commit of its item is yet to be acknowledged; in an engine that has stopped, none is
abbrev pub owes_ack : {D : Type 0} → ℕ → State D → Bool
owes_ack s state = owes_of s state.running
