-- What a stopped engine is to its callers, and what holds of each session.
use Rattle.std.specs.Prelude.{◌≡◌, ◌≢◌, ℕ, ◌≤◌, Bool, true, false, if◌then◌else◌, None, Some, Option, List, [], ◌∷◌, length, slice_index_or, refl}
use Rattle.std.specs.Coded.{Coded, code_by, coded×, coded_list, coded_ℕ}
use Rattle.inno_types.specs.declared.reply.Cause.{Cause}
use Rattle.inno_types.specs.declared.reply.Item.{Item}
use Rattle.inno_types.specs.declared.reply.Reply.TheVariants as replies
use Rattle.inno_types.specs.contracts.reply.Cause as of_cause
use Rattle.inno_model.specs.declared.event.Event.{Event}
use Rattle.inno_model.specs.declared.event.Event.TheVariants.{Stopped, Ended}
use Rattle.inno_model.specs.contracts.event.Event as of_event
use Rattle.inno_model.specs.Past.{started, under_way}
use Rattle.inno_model.specs.Recorded.{Recorded}
use Rattle.sql_grammar.specs.Grammar.{Spells}
use Rattle.sql_history.specs.Counts.{has_stopped}
use Rattle.sql_history.specs.Legal.{IsLegal, MadeSome, is_leaving, owes_commit}
use Rattle.inno_model.specs.declared.board.Phase.{Phase}
use Rattle.inno_model.specs.declared.board.Phase.TheVariants.{Idle, Busy, Leaving, Left}
use Rattle.durable_engine.specs.declared.stopped_seats.Seat.{Seat}
use Rattle.durable_engine.specs.contracts.stopped_seats.Seat as of_seat

-- why the engine stopped, if the past says so
abbrev pub stopped_by : List Event → Option Cause
stopped_by [] = None
stopped_by (Stopped cause ∷ past) = Some cause
stopped_by (other ∷ past) = stopped_by past

-- the past that says that the engine stopped: as it is where it says so already
abbrev pub halted : Cause → List Event → List Event
halted cause past = if has_stopped past then past else Stopped cause ∷ past

-- the past when a session that is so far has made its step: an item under way ends with the reply that says of the stop
abbrev pub ended : ℕ → ℕ → Phase → List Event → List Event
ended s j Busy past = Ended s j replies.Stopped ∷ past
ended s j other past = past

-- how far a session at work is after its step
abbrev pub phase_after : Phase → Phase
phase_after Busy = Idle
phase_after other = Left

-- the names of the sessions, the entries, the newest first, where each session stands, and why the engine stopped
pub record State : Type 0 where
  pub names : List (List ℕ)
  pub past : List Event
  pub seats : List Seat
  pub cause : Cause

abbrev pub state_code : Coded State
state_code =
    code_by (List (List ℕ) × (List Event × (List Seat × Cause)))
    (coded× (coded_list (coded_list coded_ℕ)) (coded× (coded_list of_event.the_row.coded)
    (coded× (coded_list of_seat.the_row.coded) of_cause.the_row.coded)))
    (λ s. (s.names, (s.past, (s.seats, s.cause))))
    (λ p. record { names = p.0; past = p.1.0; seats = p.1.1.0; cause = p.1.1.1 }) (λ _. refl)

abbrev pub state_of : Recorded → List Seat → Cause → State
state_of history seats cause = record { names = history.names; past = history.past; seats = seats; cause = cause }

-- the seat of a session; one that hasn't joined is idle
abbrev pub seat_at : List Seat → ℕ → Seat
seat_at seats s = slice_index_or seats s (record { phase = Idle; started = 0 })

abbrev pub phase_at : List Seat → ℕ → Phase
phase_at seats s = (seat_at seats s).phase

-- What the past says of a session that is so far. An item that is under way has changed what it may have.
abbrev pub PhaseAgrees : List Event → ℕ → Phase → Type 0
PhaseAgrees past s Idle = (under_way s past ≡ None) × (is_leaving s past ≡ false)
PhaseAgrees past s Busy = ((item : Item) × (under_way s past ≡ Some item)) × MadeSome Spells s past
PhaseAgrees past s Leaving = under_way s past ≡ None
PhaseAgrees past s Left = under_way s past ≡ None

pub record SeatAgrees (past : List Event) (s : ℕ) (seat : Seat) : Type 0 where
  pub phase : PhaseAgrees past s seat.phase
  pub counted : seat.started ≡ started s past

pub record AreSeats (names : List (List ℕ)) (past : List Event) (seats : List Seat) : Type 0 where
  -- a seat for each session, and maybe some that wait for their sessions
  pub enough : length names ≤ length seats
  pub each : (s : ℕ) → SeatAgrees past s (seat_at seats s)

-- The past says why the engine stopped where that is entered. Where it isn't, it may be entered next.
pub record IsStopped (entered : Bool) (state : State) : Type 0 where
  pub legal : IsLegal Spells state.past
  pub opened : state.past ≢ []
  pub paid : owes_commit state.past ≡ None
  pub told : entered ≡ has_stopped state.past
  pub stopped : has_stopped state.past ≡ true → stopped_by state.past ≡ Some state.cause
  pub seated : AreSeats state.names state.past state.seats
