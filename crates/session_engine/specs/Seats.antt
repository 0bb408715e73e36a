-- What the engine is to its callers, and what holds of each session's seat.
use Rattle.std.specs.Prelude.{◌≡◌, ℕ, ◌<◌, ◌≤◌, Bool, true, false, Option, None, List, length, slice_index_or, refl}
use Rattle.std.specs.Coded.{Coded, code_by, coded×, coded_list}
use Rattle.inno_types.specs.declared.reply.Item.{Item}
use Rattle.inno_types.specs.declared.reply.Item.TheVariants as items
use Rattle.inno_types.specs.declared.stmt.Stmt.{Stmt}
use Rattle.inno_model.specs.declared.event.Event.{Event}
use Rattle.inno_model.specs.Past.{under_way, own, IsClosed}
use Rattle.sql_grammar.specs.Grammar.{Spells}
use Rattle.sql_prefix.specs.declared.parser.ParseBad.TheVariants.{Syntax}
use Rattle.sql_prefix.specs.Refused.{IsRefusedAt}
use Rattle.sql_history.specs.Items.{Asks}
use Rattle.sql_history.specs.Legal.{is_leaving}
use Rattle.shared_lists.specs.Tasks as tasks
use Rattle.shared_lists.specs.State.{State as Lists, state_code as lists_code, task_of}
use Rattle.sql_lists.specs.Steps.{HasRowsAlone}
use Rattle.transaction_statements.specs.Running.{TakesBackTo}
use Rattle.statement.specs.declared.under_way.Statement.{Statement}
use Rattle.statement.specs.declared.under_way.Statement.TheVariants.{Asked}
use Rattle.statement.specs.Running.{HasOnlyStarted, IsRunning, owes_ack, wants_room as statement_wants_room}
use Rattle.inno_model.specs.declared.board.Phase.{Phase}
use Rattle.inno_model.specs.declared.board.Phase.TheVariants as phases
use Rattle.session_engine.specs.declared.seats.Seat.{Seat}
use Rattle.session_engine.specs.declared.seats.Seat.TheVariants.{Idle, Busy, Refused, Signalling, Leaving, Left}
use Rattle.session_engine.specs.declared.seats.SignalItem.{SignalItem}
use Rattle.session_engine.specs.declared.seats.SignalItem.TheVariants.{Gives, Awaits}
use Rattle.session_engine.specs.Places.{HasExactPlaces}
use Rattle.session_engine.specs.Signals.{AreSpent, HasOnlyAsked, HasSeenNone}
use Rattle.session_engine.specs.contracts.seats.Seat as of_seat

-- what all sessions share, and where each session stands
pub record State : Type 0 where
  pub lists : Lists
  pub seats : List Seat

abbrev pub state_code : Coded State
state_code =
    code_by (Lists × List Seat) (coded× lists_code (coded_list of_seat.the_row.coded)) (λ s. (s.lists, s.seats)) (λ p. record { lists = p.0; seats = p.1 })
    (λ _. refl)

-- the seat of a session; one that hasn't joined is idle
abbrev pub seat_at : List Seat → ℕ → Seat
seat_at seats s = slice_index_or seats s Idle

-- a session at work on a statement or a signal, or on its way out
abbrev pub is_working : Seat → Bool
is_working Idle = false
is_working (Busy statement) = true
is_working (Refused at) = true
is_working (Signalling item) = true
is_working Leaving = true
is_working Left = false

-- it has a statement under way
abbrev pub is_busy : Seat → Bool
is_busy (Busy statement) = true
is_busy other = false

abbrev pub has_left : Seat → Bool
has_left Left = true
has_left other = false

abbrev pub phase_of : Seat → Phase
phase_of Idle = phases.Idle
phase_of (Busy statement) = phases.Busy
phase_of (Refused at) = phases.Busy
phase_of (Signalling item) = phases.Busy
phase_of Leaving = phases.Leaving
phase_of Left = phases.Left

-- its statement's commit is yet to be acknowledged
abbrev pub owes : Seat → Bool
owes (Busy statement) = owes_ack statement
owes other = false

-- its statement is about to tell a change to the history
abbrev pub wants_room : Seat → Bool
wants_room (Busy statement) = statement_wants_room statement
wants_room other = false

-- Since when an item waits: the moment of its first step, where it has made one and awaits a signal.
abbrev pub item_since : SignalItem → Option ℕ
item_since (Gives name) = None
item_since (Awaits wait) = wait.since

abbrev pub seat_since : Seat → Option ℕ
seat_since (Signalling item) = item_since item
seat_since other = None

abbrev pub since_at : ℕ → State → Option ℕ
since_at s state = seat_since (seat_at state.seats s)

abbrev pub IsJoined : ℕ → State → Type 0
IsJoined s state = s < length state.lists.names

abbrev pub IsIdle : ℕ → State → Type 0
IsIdle s state = seat_at state.seats s ≡ Idle

abbrev pub IsWorking : ℕ → State → Type 0
IsWorking s state = is_working (seat_at state.seats s) ≡ true

-- the session has no item under way, and no open transaction
pub record HasEnded (s : ℕ) (state : State) : Type 0 where
  pub rests : under_way s state.lists.past ≡ None
  pub closed : IsClosed s state.lists.past

-- the session's item is a statement
abbrev pub IsSpelled : ℕ → List Event → Type 0
IsSpelled s past = (statement : Stmt) × Asks Spells s statement past

-- The session's item has done nothing, and never will: its text is no statement, and goes wrong at this byte.
pub record IsUnread (s at : ℕ) (lists : Lists) : Type 0 where
  pub text : List ℕ
  pub started : HasOnlyStarted s text lists.past
  pub refused : IsRefusedAt text (Syntax at)
  pub idle : task_of s lists ≡ tasks.Idle

-- its statement is under way, and owes no acknowledgement
abbrev pub IsAtWork : ℕ → Lists → Seat → Type 0
IsAtWork s lists seat = (statement : Statement) × (seat ≡ Busy statement) × IsRunning lists s statement × (owes_ack statement ≡ false)

-- a session without an item, whose open transaction has changes of rows alone
pub record MayGoOut (s : ℕ) (past : List Event) : Type 0 where
  pub rests : under_way s past ≡ None
  pub rows_alone : HasRowsAlone s past

-- It takes its changes back one by one: nothing is under way with rows, or the newest one is being taken back.
pub record IsGoingOut (s : ℕ) (lists : Lists) : Type 0 where
  pub may : MayGoOut s lists.past
  pub task : TakesBackTo 0 (length (own s lists.past)) (task_of s lists)

-- the item gives the signal or awaits it, as its session's says
abbrev pub HasAsked : ℕ → SignalItem → List Event → Type 0
HasAsked s (Gives name) past = HasOnlyAsked s (items.Signal name) past
HasAsked s (Awaits wait) past = HasOnlyAsked s (items.Await wait.name) past × HasSeenNone wait.name wait.seen past

-- what is seated of an item before its first step
abbrev pub IsSeatOf : Item → Seat → Type 0
IsSeatOf (items.Sql text) (Busy statement) = (stmt : Stmt) × (statement ≡ Asked stmt) × Spells text stmt
IsSeatOf (items.Sql text) (Refused at) = IsRefusedAt text (Syntax at)
IsSeatOf (items.Signal name) seat = seat ≡ Signalling (Gives name)
IsSeatOf (items.Await name) seat = seat ≡ Signalling (Awaits (record { name = name; seen = 0; since = None }))
IsSeatOf item other = ⊥

-- What is kept of a session is what the past says. One that is idle or gone has nothing under way with rows.
abbrev pub SeatAgrees : Lists → ℕ → Seat → Type 0
SeatAgrees lists s Idle = MayGoOut s lists.past × (is_leaving s lists.past ≡ false) × (task_of s lists ≡ tasks.Idle)
SeatAgrees lists s (Busy statement) = IsRunning lists s statement × IsSpelled s lists.past
SeatAgrees lists s (Refused at) = IsUnread s at lists
SeatAgrees lists s (Signalling item) = HasAsked s item lists.past × (task_of s lists ≡ tasks.Idle)
SeatAgrees lists s Leaving = IsGoingOut s lists
SeatAgrees lists s Left = (under_way s lists.past ≡ None) × IsClosed s lists.past × (task_of s lists ≡ tasks.Idle)

pub record AreSeats (lists : Lists) (seats : List Seat) : Type 0 where
  -- a seat for each session, and maybe some that wait for their sessions
  pub enough : length lists.names ≤ length seats
  pub each : (s : ℕ) → SeatAgrees lists s (seat_at seats s)
  pub spent : AreSpent lists.past
  pub exact : HasExactPlaces lists.past
