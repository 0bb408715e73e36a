-- What logged sessions are to their callers, and what holds of them at all times.
use Rattle.std.specs.Prelude.{◌≡◌, ℕ, ◌<◌, ◌≤◌, true, List, length, All, refl}
use Rattle.std.specs.Coded.{Coded, code_by, coded×, coded_list}
use Rattle.inno_model.specs.Past.{started, opening}
use Rattle.inno_model.specs.declared.board.Phase.TheVariants.{Idle}
use Rattle.session_engine.specs.Seats.{State as Sessions, state_code as sessions_code, seat_at, phase_of}
use Rattle.durable_engine.specs.declared.stopped_seats.Seat.{Seat}
use Rattle.durable_engine.specs.contracts.stopped_seats.Seat as of_seat
use Rattle.durable_engine.specs.Seats.{phase_at, seat_at as stopped_seat_at}
use Rattle.durable_engine.specs.StoppedCalls.{is_at_work}
use Rattle.commit_log.specs.Room.{IsLoggable}
use Rattle.commit_log.specs.View.{CommitView}
use Rattle.commit_log.specs.contracts.commit_log.CommitLog as of_log

-- the sessions with their lists, how far each session is, and the log
pub record State : Type 0 where
  pub sessions : Sessions
  pub seats : List Seat
  pub log : CommitView

abbrev pub state_code : Coded State
state_code =
    code_by (Sessions × (List Seat × CommitView)) (coded× sessions_code (coded× (coded_list of_seat.the_row.coded) of_log.the_row.coded))
    (λ s. (s.sessions, (s.seats, s.log))) (λ p. record { sessions = p.0; seats = p.1.0; log = p.1.1 }) (λ _. refl)

abbrev pub IsJoined : ℕ → State → Type 0
IsJoined s state = s < length state.sessions.lists.names

abbrev pub IsIdle : ℕ → State → Type 0
IsIdle s state = phase_at state.seats s ≡ Idle

-- an item of it is under way, or its ending
abbrev pub IsWorking : ℕ → State → Type 0
IsWorking s state = is_at_work (phase_at state.seats s) ≡ true

-- How far each session is, and how many items it has started, is what its seat and the past say. There is a seat and a draft
-- for each, maybe some that are yet to join too; and the log can make the tables of the opening.
pub record AreSeated (sessions : Sessions) (seats : List Seat) (log : CommitView) : Type 0 where
  pub enough : length sessions.lists.names ≤ length seats
  pub drafted : length sessions.lists.names ≤ length log.drafts
  pub phases : (s : ℕ) → phase_at seats s ≡ phase_of (seat_at sessions.seats s)
  pub counted : (s : ℕ) → (stopped_seat_at seats s).started ≡ started s sessions.lists.past
  pub tables : All IsLoggable (opening sessions.lists.past).schemas
