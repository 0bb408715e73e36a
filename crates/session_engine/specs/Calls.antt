-- What each call of the engine does, between two states.
use Rattle.std.specs.Prelude.{◌≡◌, ◌≢◌, ◌⊎◌, ℕ, ◌+◌, ◌-◌, ◌≤◌, ◌<◌, true, false, Option, None, Some, unwrap_or, List, [], ◌∷◌, ◌++◌, count_by}
use Rattle.std.specs.List.{AllByRecursion}
use Rattle.inno_types.specs.declared.reply.Item.{Item}
use Rattle.inno_types.specs.declared.reply.Item.TheVariants as items
use Rattle.inno_types.specs.declared.reply.Reply.{Reply}
use Rattle.inno_types.specs.declared.reply.Reply.TheVariants.{Done, Fail, NotSignalled}
use Rattle.inno_types.specs.declared.reply.SqlError.TheVariants.{Syntax}
use Rattle.inno_db.specs.Database.{Database}
use Rattle.inno_model.specs.declared.event.Event.{Event}
use Rattle.inno_model.specs.declared.event.Event.TheVariants.{Opened, Started, Changed, Ended, Acked, Signal}
use Rattle.inno_model.specs.Past.{is_of, begins_txn, started, under_way, IsClosed}
use Rattle.sql_history.specs.Counts.{signals}
use Rattle.store_api.specs.declared.answers.Progress.{Progress}
use Rattle.store_api.specs.declared.answers.Progress.TheVariants as progress
use Rattle.inno_model.specs.declared.board.Phase.TheVariants.{Busy}
use Rattle.shared_lists.specs.Tasks as tasks
use Rattle.shared_lists.specs.State.{State as Lists, Adds, task_of}
use Rattle.sql_lists.specs.declared.advance.Advance.{Advance}
use Rattle.sql_lists.specs.declared.advance.Advance.TheVariants as advance
use Rattle.sql_lists.specs.Steps.{Moves, AsksToWrite, WaitsFor, is_apart, changes_rows}
use Rattle.giving_up.specs.Machines.{StepsAs}
use Rattle.statement.specs.declared.under_way.Statement.{Statement}
use Rattle.statement.specs.Running.{IsRunning, wants_room}
use Rattle.statement.specs.Going.{statement_to_go}
use Rattle.session_engine.specs.declared.seats.Seat.{Seat}
use Rattle.session_engine.specs.declared.seats.Seat.TheVariants as seats
use Rattle.session_engine.specs.declared.seats.SignalItem.{SignalItem}
use Rattle.session_engine.specs.declared.seats.SignalItem.TheVariants.{Gives, Awaits}
use Rattle.session_engine.specs.Seats.{State, seat_at, item_since, is_working, phase_of, HasAsked, IsGoingOut}

-- the lists of this database, where nobody has joined
pub record AreFirst (db : Database) (lists : Lists) : Type 0 where
  pub past : lists.past ≡ Opened db ∷ []
  pub names : lists.names ≡ []
  pub writer : lists.writer ≡ None

-- the lists are the same to all sessions
pub record SameLists (old new : Lists) : Type 0 where
  pub names_stay : new.names ≡ old.names
  pub past_stays : new.past ≡ old.past
  pub writer_stays : new.writer ≡ old.writer
  pub tasks_stay : (s : ℕ) → task_of s new ≡ task_of s old

-- the state is the same to all sessions
pub record SameState (old new : State) : Type 0 where
  pub lists_stay : SameLists old.lists new.lists
  pub seats_stay : (s : ℕ) → seat_at new.seats s ≡ seat_at old.seats s

-- the seats of the other sessions are as they were
abbrev pub OthersStay : ℕ → List Seat → List Seat → Type 0
OthersStay s old new = (u : ℕ) → u ≢ s → seat_at new u ≡ seat_at old u

pub record Joins (name : List ℕ) (old new : State) : Type 0 where
  pub names_are : new.lists.names ≡ old.lists.names ++ name ∷ []
  pub past_stays : new.lists.past ≡ old.lists.past
  pub writer_stays : new.lists.writer ≡ old.lists.writer
  pub tasks_stay : (s : ℕ) → task_of s new.lists ≡ task_of s old.lists
  pub seats_stay : (s : ℕ) → seat_at new.seats s ≡ seat_at old.seats s

pub record Starts (s : ℕ) (item : Item) (old new : State) : Type 0 where
  pub lists_are : Adds (Started s (started s old.lists.past + 1) item) s old.lists new.lists
  pub works : is_working (seat_at new.seats s) ≡ true
  pub others_stay : OthersStay s old.seats new.seats

pub record Leaves (s : ℕ) (old new : State) : Type 0 where
  pub lists_stay : new.lists ≡ old.lists
  pub leaving : seat_at new.seats s ≡ seats.Leaving
  pub others_stay : OthersStay s old.seats new.seats

-- the step starts and ends no item
abbrev pub KeepsItems : Event → Type 0
KeepsItems (Started s j item) = ⊥
KeepsItems (Ended s j reply) = ⊥
KeepsItems other = Unit {0}

-- One entry tells a change at most, and before it nothing comes but the opening of its transaction. The newest stands first.
abbrev pub TellsOne : List Event → Type 0
TellsOne [] = Unit {0}
TellsOne (Changed s change ∷ earlier) = AllByRecursion (λ e. begins_txn e ≡ true) earlier
TellsOne (other ∷ earlier) = TellsOne earlier

-- Entries of the session's are added, within its item or its ending. One of them at most tells a change, and none
-- acknowledges a commit.
pub record GoesOn (s : ℕ) (old new : List Event) : Type 0 where
  pub entries : List Event
  pub past_is : new ≡ entries ++ old
  pub each : AllByRecursion (λ e. (is_of s e ≡ true) × KeepsItems e) entries
  pub tells : TellsOne entries
  pub unacked : AllByRecursion (λ e. is_apart e ≡ false) entries

-- a step of a session: what it leaves as it was
pub record StepsOn (s : ℕ) (old new : State) : Type 0 where
  pub names_stay : new.lists.names ≡ old.lists.names
  pub others_write : (u : ℕ) → u ≢ s → old.lists.writer ≡ Some u → new.lists.writer ≡ Some u
  pub may_write : new.lists.writer ≡ Some s → (old.lists.writer ≡ Some s) ⊎ AsksToWrite s old.lists.past
  pub others_go_on : (u : ℕ) → u ≢ s → task_of u new.lists ≡ task_of u old.lists
  pub others_stay : OthersStay s old.seats new.seats

-- the past before an item ends: as it was, or with the signal that the item gives
abbrev pub HasGiven : ℕ → List Event → List Event → Type 0
HasGiven s old past = (past ≡ old) ⊎ ((name : List ℕ) × (under_way s old ≡ Some (items.Signal name)) × (past ≡ Signal name ∷ old))

-- the session's item ends with the reply
abbrev pub EndsItem : ℕ → Reply → List Event → List Event → Type 0
EndsItem s reply old new = (past : List Event) × HasGiven s old past × (new ≡ Ended s (started s old) reply ∷ past)

-- the step ends the session's item with the reply, or its ending
abbrev pub EndsBy : ℕ → Reply → State → State → Type 0
EndsBy s reply old new =
    (EndsItem s reply old.lists.past new.lists.past × (seat_at new.seats s ≡ seats.Idle))
    ⊎ ((seat_at old.seats s ≡ seats.Leaving) × (reply ≡ Done) × (new.lists ≡ old.lists) × (seat_at new.seats s ≡ seats.Left))

-- the seat and the answer that a statement's step comes to
abbrev pub Settled : Statement → Advance → Seat → Progress → Type 0
Settled statement advance.Went seat answer = (seat ≡ seats.Busy statement) × (answer ≡ progress.Went)
Settled statement (advance.Waiting by blockers) seat answer = (seat ≡ seats.Busy statement) × (answer ≡ progress.Waiting blockers)
Settled statement advance.NoMemory seat answer = (seat ≡ seats.Busy statement) × (answer ≡ progress.NoMemory)
Settled statement (advance.Done reply) seat answer = (seat ≡ seats.Idle) × (answer ≡ progress.Done reply)

-- A step of a statement, from one seat and state to another: what becomes of the statement, and what its answer comes to.
pub record StepsTo (s : ℕ) (old new : Lists) (before after : Seat) (answer : Progress) : Type 0 where
  pub statement : Statement
  pub was : before ≡ seats.Busy statement
  pub next : Statement
  pub told : Advance
  pub step : StepsAs IsRunning statement_to_go s old statement new next told
  pub quiet : wants_room statement ≡ false → count_by changes_rows new.past ≡ count_by changes_rows old.past
  pub settled : Settled next told after answer

-- the step ends an item whose text is no statement, with the place where it goes wrong
pub record Refuses (s at : ℕ) (old new : Lists) (seat : Seat) (answer : Progress) : Type 0 where
  pub ends : Adds (Ended s (started s old.past) (Fail (Syntax at))) s old new
  pub seat_is : seat ≡ seats.Idle
  pub answer_is : answer ≡ progress.Done (Fail (Syntax at))

-- the step ends an item that gives a signal or awaits one
pub record EndsSignal (s : ℕ) (reply : Reply) (old new : Lists) : Type 0 where
  pub names_stay : new.names ≡ old.names
  pub writer_stays : new.writer ≡ old.writer
  pub tasks_stay : (u : ℕ) → task_of u new ≡ task_of u old
  pub ends : EndsItem s reply old.past new.past

-- Such an item gives up waiting where its signal isn't there and so many seconds, fifty at least, have passed since its first
-- step.
abbrev pub WaitsInVain : ℕ → ℕ → SignalItem → List Event → Type 0
WaitsInVain now waited (Gives name) past = ⊥
WaitsInVain now waited (Awaits wait) past =
    (signals wait.name past ≡ 0) × (since : ℕ) × (wait.since ≡ Some since) × (waited ≡ now - since) × (50 ≤ waited)

abbrev pub HasCause : ℕ → SignalItem → Reply → List Event → Type 0
HasCause now item (NotSignalled waited) past = WaitsInVain now waited item past
HasCause now item other past = Unit {0}

-- it is awaited, and not there
abbrev pub IsAwaited : ℕ → List Event → Type 0
IsAwaited s past = (name : List ℕ) × (under_way s past ≡ Some (items.Await name)) × (signals name past ≡ 0)

-- fewer than fifty seconds have passed since its first step
abbrev pub IsPatient : ℕ → SignalItem → Type 0
IsPatient now (Gives name) = ⊥
IsPatient now (Awaits wait) = (since : ℕ) × (wait.since ≡ Some since) × (now - since < 50)

-- what a step of such an item does
abbrev pub Signals : ℕ → ℕ → SignalItem → Lists → Lists → Seat → Progress → Type 0
Signals s now item old new seat (progress.Done reply) = EndsSignal s reply old new × (seat ≡ seats.Idle) × HasCause now item reply old.past
Signals s now item old new seat progress.NotYet = (new ≡ old) × IsAwaited s old.past
    × ((later : SignalItem) × HasAsked s later old.past × IsPatient now later × (item_since later ≡ Some (unwrap_or (item_since item) now))
    × (seat ≡ seats.Signalling later))
Signals s now item old new seat other = ⊥

-- where such an item gives up waiting, it has waited in vain
abbrev pub GivesUpInVain : ℕ → ℕ → Progress → State → Type 0
GivesUpInVain s now answer old =
    (item : SignalItem) (waited : ℕ) → seat_at old.seats s ≡ seats.Signalling item → answer ≡ progress.Done (NotSignalled waited)
    → WaitsInVain now waited item old.lists.past

-- The session's item waits on: fewer than fifty seconds have passed since its first step, which this is where there was none.
abbrev pub WaitsOn : ℕ → Option ℕ → Type 0
WaitsOn now since = now - unwrap_or since now < 50

-- Since when the session's item waits after a step: since its first one, as long as what it awaits isn't there.
abbrev pub since_after : Progress → ℕ → Option ℕ → Option ℕ
since_after progress.NotYet now since = Some (unwrap_or since now)
since_after other now since = None

-- what a step of a session's ending does: it never finds no memory
abbrev pub GoesOut : ℕ → Lists → Lists → Seat → Progress → Type 0
GoesOut s old new seat progress.Went = Moves s old new × GoesOn s old.past new.past × IsGoingOut s new × (seat ≡ seats.Leaving)
GoesOut s old new seat (progress.Done reply) = (reply ≡ Done) × (new ≡ old) × IsClosed s old.past × (task_of s old ≡ tasks.Idle) × (seat ≡ seats.Left)
GoesOut s old new seat other = ⊥

-- what a step does, by its answer
abbrev pub StepsBy : ℕ → Progress → State → State → Type 0
StepsBy s progress.Went old new = StepsOn s old new × GoesOn s old.lists.past new.lists.past × (is_working (seat_at new.seats s) ≡ true)
StepsBy s (progress.Waiting blockers) old new =
    StepsOn s old new × SameLists old.lists new.lists × (is_working (seat_at new.seats s) ≡ true) × ((by : ℕ) × WaitsFor s by blockers old.lists)
StepsBy s progress.NoMemory old new = StepsOn s old new × (new.lists.past ≡ old.lists.past) × (is_working (seat_at new.seats s) ≡ true)
StepsBy s progress.NotYet old new =
    StepsOn s old new × SameLists old.lists new.lists × (is_working (seat_at new.seats s) ≡ true) × IsAwaited s old.lists.past
StepsBy s (progress.Done reply) old new = StepsOn s old new × EndsBy s reply old new
StepsBy s other old new = ⊥

-- the session's commit is acknowledged at this moment
pub record Acknowledges (s moment : ℕ) (old new : State) : Type 0 where
  pub steps : StepsOn s old new
  pub past_is : new.lists.past ≡ Acked s moment ∷ old.lists.past
  -- its item goes on
  pub phase_was : phase_of (seat_at old.seats s) ≡ Busy
  pub phase_is : phase_of (seat_at new.seats s) ≡ Busy

-- no entry that was added tells a change
abbrev pub TellsNone : List Event → List Event → Type 0
TellsNone old new = count_by changes_rows new ≡ count_by changes_rows old
