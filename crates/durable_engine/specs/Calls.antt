-- What each call of the engine does, between two states.
use Rattle.std.specs.Prelude.{◌≡◌, ◌≢◌, ◌⊎◌, ℕ, ◌+◌, ◌-◌, ◌≤◌, true, Option, Some, List, [], ◌∷◌, ◌++◌, IfSome}
use Rattle.std.specs.List.{AllByRecursion}
use Rattle.inno_types.specs.declared.reply.Item.{Item}
use Rattle.inno_types.specs.declared.reply.Item.TheVariants as items
use Rattle.inno_types.specs.declared.reply.Reply.{Reply}
use Rattle.inno_types.specs.declared.reply.Reply.TheVariants.{Done, NotSignalled}
use Rattle.inno_types.specs.declared.reply.Cause.TheVariants.{Disk}
use Rattle.inno_model.specs.declared.event.Event.{Event}
use Rattle.inno_model.specs.declared.event.Event.TheVariants.{Started, Acked}
use Rattle.inno_model.specs.Past.{is_of, started, under_way}
use Rattle.store_api.specs.declared.answers.Progress.{Progress}
use Rattle.store_api.specs.declared.answers.Progress.TheVariants as progress
use Rattle.inno_model.specs.declared.board.Phase.TheVariants.{Idle, Leaving, Left}
use Rattle.sql_lists.specs.Steps.{WaitsFor}
use Rattle.session_engine.specs.Calls.{KeepsItems, EndsItem, IsAwaited, WaitsOn, since_after}
use Rattle.durable_engine.specs.declared.stopped_seats.Seat.{Seat}
use Rattle.durable_engine.specs.Seats.{State as StoppedState, phase_at, halted, ended, phase_after}
use Rattle.durable_engine.specs.StoppedCalls.{is_at_work, StepsBy as StoppedStepsBy}
use Rattle.durable_engine.specs.SessionsState.{State as LoggedState}
use Rattle.durable_engine.specs.State.{State, since_at, owes_ack}

-- the other sessions are as far as they were
abbrev pub OthersStay : ℕ → List Seat → List Seat → Type 0
OthersStay s old new = (u : ℕ) → u ≢ s → phase_at new u ≡ phase_at old u

-- the state is the same to all sessions
pub record SameState {D : Type 0} (old new : State D) : Type 0 where
  pub disk_stays : new.disk ≡ old.disk
  pub names_stay : new.names ≡ old.names
  pub past_stays : new.past ≡ old.past
  pub phases_stay : (s : ℕ) → phase_at new.seats s ≡ phase_at old.seats s

pub record Joins {D : Type 0} (name : List ℕ) (old new : State D) : Type 0 where
  pub disk_stays : new.disk ≡ old.disk
  pub names_are : new.names ≡ old.names ++ name ∷ []
  pub past_stays : new.past ≡ old.past
  pub phases_stay : (s : ℕ) → phase_at new.seats s ≡ phase_at old.seats s

pub record Starts {D : Type 0} (s : ℕ) (item : Item) (old new : State D) : Type 0 where
  pub disk_stays : new.disk ≡ old.disk
  pub names_stay : new.names ≡ old.names
  pub past_is : new.past ≡ Started s (started s old.past + 1) item ∷ old.past
  pub works : is_at_work (phase_at new.seats s) ≡ true
  pub others_stay : OthersStay s old.seats new.seats

pub record Leaves {D : Type 0} (s : ℕ) (old new : State D) : Type 0 where
  pub disk_stays : new.disk ≡ old.disk
  pub names_stay : new.names ≡ old.names
  pub past_stays : new.past ≡ old.past
  pub leaving : phase_at new.seats s ≡ Leaving
  pub others_stay : OthersStay s old.seats new.seats

-- entries of the session's are added, within its item or its ending
pub record GoesOn (s : ℕ) (old new : List Event) : Type 0 where
  pub entries : List Event
  pub past_is : new ≡ entries ++ old
  pub each : AllByRecursion (λ e. (is_of s e ≡ true) × KeepsItems e) entries

-- the step ends the session's item with the reply, or its ending
abbrev pub EndsBy : {D : Type 0} → ℕ → Reply → State D → State D → Type 0
EndsBy s reply old new =
    (EndsItem s reply old.past new.past × (phase_at new.seats s ≡ Idle))
    ⊎ ((phase_at old.seats s ≡ Leaving) × (reply ≡ Done) × (new.past ≡ old.past) × (phase_at new.seats s ≡ Left))

-- The session's item ends with the reply that says of the stop, or its ending is over; why the engine stopped stands in the
-- history before.
pub record Halts {D : Type 0} (s : ℕ) (old new : State D) : Type 0 where
  pub past_is : new.past ≡ ended s (started s old.past) (phase_at old.seats s) (halted Disk old.past)
  pub phase_is : phase_at new.seats s ≡ phase_after (phase_at old.seats s)

-- what a step of a session leaves as it was
pub record StepsOn {D : Type 0} (s : ℕ) (old new : State D) : Type 0 where
  pub names_stay : new.names ≡ old.names
  pub others_stay : OthersStay s old.seats new.seats

abbrev pub Works : {D : Type 0} → ℕ → State D → Type 0
Works s new = is_at_work (phase_at new.seats s) ≡ true

-- what a step does, by its answer
abbrev pub StepsBy : {D : Type 0} → ℕ → Progress → State D → State D → Type 0
StepsBy s progress.Went old new = StepsOn s old new × GoesOn s old.past new.past × Works s new
StepsBy s (progress.Waiting blockers) old new =
    StepsOn s old new × (new.past ≡ old.past) × Works s new × IfSome old.running (λ sessions. (by : ℕ) × WaitsFor s by blockers sessions.lists)
StepsBy s progress.NoMemory old new = StepsOn s old new × (new.past ≡ old.past) × Works s new
StepsBy s progress.NotYet old new = StepsOn s old new × (new.past ≡ old.past) × Works s new × IsAwaited s old.past
StepsBy s (progress.Done reply) old new = StepsOn s old new × EndsBy s reply old new
StepsBy s (progress.Stopped cause) old new = StepsOn s old new × (cause ≡ Disk) × Halts s old new
StepsBy s other old new = ⊥

-- who waits since a moment waited since then before
abbrev pub WaitsAsBefore : {D : Type 0} → ℕ → State D → State D → Type 0
WaitsAsBefore u old new = (since : ℕ) → since_at u new ≡ Some since → since_at u old ≡ Some since

-- so many seconds, fifty at least, have passed since then
abbrev pub HasWaited : ℕ → ℕ → Option ℕ → Type 0
HasWaited now waited since = (at : ℕ) × (since ≡ Some at) × (waited ≡ now - at) × (50 ≤ waited)

-- an item that awaits a signal gives up only where it has waited
abbrev pub WaitsLong : ℕ → ℕ → Progress → List Event → Option ℕ → Type 0
WaitsLong s now answer past since =
    (name : List ℕ) (waited : ℕ) → under_way s past ≡ Some (items.Await name) → answer ≡ progress.Done (NotSignalled waited) → HasWaited now waited since

-- What moments a session's step at the moment `now` goes by, where the disk's moment is the other one.
pub record KeepsTime {D : Type 0} (s now moment : ℕ) (answer : Progress) (old new : State D) : Type 0 where
  -- as long as what its item awaits isn't there, it waits since its first step
  pub since : since_at s new ≡ since_after answer now (since_at s old)
  -- fewer than fifty seconds have passed where it waits on
  pub waits : answer ≡ progress.NotYet → WaitsOn now (since_at s old)
  -- fifty seconds at least, where it gives up
  pub long : WaitsLong s now answer old.past (since_at s old)
  pub others : (u : ℕ) → u ≢ s → WaitsAsBefore u old new
  -- a commit is acknowledged at the disk's moment
  pub acks : owes_ack s old ≡ true → answer ≡ progress.Went → new.past ≡ Acked s moment ∷ old.past

-- The first step of an engine that stops, made by the session: the stopped engine has the same sessions, and the step ends the
-- session's item or its ending, or found no memory.
pub record StopsBy (s : ℕ) (answer : Progress) (old : LoggedState) (new : StoppedState) : Type 0 where
  pub cause_is : new.cause ≡ Disk
  pub before : StoppedState
  pub taken : before ≡ record { names = old.sessions.lists.names; past = old.sessions.lists.past; seats = old.seats; cause = Disk }
  pub steps : StoppedStepsBy s answer before new
