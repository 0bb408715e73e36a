-- What a step of one session's statement does, by its answer, whatever the statement is.
use Rattle.std.specs.Prelude.{◌≡◌, ◌≢◌, ◌⊎◌, ℕ, Bool, true, false, if◌then◌else◌, is_some, Option, Some, None, List, [], ◌∷◌, ◌++◌}
use Rattle.std.specs.List.{AllByRecursion}
use Rattle.inno_types.specs.{declared.lock.Level.TheVariants.RepeatableRead, declared.lock.Edge.Edge, declared.lock.LockKind.TheVariants.Rec}
use Rattle.inno_types.specs.{declared.lock.Mode.TheVariants.X, declared.stmt.Stmt.Stmt}
use Rattle.inno_db.specs.declared.change.Change.{Change}
use Rattle.inno_model.specs.{declared.event.Event.Event, declared.event.Event.TheVariants.Changed, declared.event.Event.TheVariants.Ended}
use Rattle.inno_model.specs.{declared.event.Event.TheVariants.Acked, declared.event.Event.TheVariants.Signal}
use Rattle.inno_model.specs.Past.{begins_txn, started, of_item, own, level, txn, IsOpen}
use Rattle.sql_grammar.specs.Grammar.{Spells}
use Rattle.sql_history.specs.{Legal.Takes, Legal.IsWriting, Legal.IsCreation, Counts.last_moment}
use Rattle.law_past_agreement.specs.Order.{IsOfRow, IsNoOthers}
use Rattle.shared_lists.specs.{Tasks.Idle, Tasks.asked, State.State, State.task_of, State.Adds, State.Stays}
use Rattle.sql_lists.specs.declared.advance.Advance.{Advance}
use Rattle.sql_lists.specs.declared.advance.Advance.TheVariants as advance

-- all changes of the session that stand are changes of rows
abbrev pub HasRowsAlone : ℕ → List Event → Type 0
HasRowsAlone s past = AllByRecursion IsOfRow (own s past)

-- The session's item asks for the statement, which nothing refused before it saw a row, and has done nothing yet.
pub record IsTaken (s : ℕ) (stmt : Stmt) (past : List Event) : Type 0 where
  pub takes : Takes Spells s stmt past
  pub nothing : of_item s past ≡ []
  pub rows_alone : HasRowsAlone s past

-- ---- what one session's step does to what all sessions share

abbrev pub changes_rows : Event → Bool
changes_rows (Changed t change) = true
changes_rows other = false

-- no other session may write
abbrev pub MayWriteAlone : ℕ → Option ℕ → Type 0
MayWriteAlone t writer = (s : ℕ) → s ≢ t → writer ≢ Some s

-- an entry of the session's, or a signal; changes are made where no other session may write
abbrev pub IsEntryOf : ℕ → Option ℕ → Event → Type 0
IsEntryOf t writer e = IsNoOthers t e × (changes_rows e ≡ true → MayWriteAlone t writer)

-- an acknowledgement or a signal, which no statement adds
abbrev pub is_apart : Event → Bool
is_apart (Acked s moment) = true
is_apart (Signal name) = true
is_apart other = false

-- the session's task asks for the change, or its item makes a table
abbrev pub Intends : ℕ → State → Change → Type 0
Intends t state change =
    (asked (task_of t state) ≡ Some change) ⊎ ((statement : Stmt) × Takes Spells t statement state.past × IsCreation statement)

-- At most one of the entries tells a change, which the session was about to make; before it nothing comes but the opening
-- of its transaction.
abbrev pub TellsOne : ℕ → State → List Event → Type 0
TellsOne t old [] = Unit {0}
TellsOne t old (Changed s change ∷ earlier) = Intends t old change × AllByRecursion (λ e. begins_txn e ≡ true) earlier
TellsOne t old (other ∷ earlier) = TellsOne t old earlier

-- entries of the session's, or signals, are added, the newest first
pub record Adding (t : ℕ) (old new : State) : Type 0 where
  pub entries : List Event
  pub past_is : new.past ≡ entries ++ old.past
  pub each : AllByRecursion (IsEntryOf t new.writer) entries

-- the session's item asks to write: for INSERT, UPDATE, DELETE and CREATE TABLE alone
abbrev pub AsksToWrite : ℕ → List Event → Type 0
AsksToWrite s past = (statement : Stmt) × Takes Spells s statement past × (IsWriting statement ⊎ IsCreation statement)

-- A step of the session's statement. Its commit is acknowledged by others than the statement.
pub record Moves (t : ℕ) (old new : State) : Type 0 where
  pub names_stay : new.names ≡ old.names
  pub adding : Adding t old new
  pub tells : TellsOne t old adding.entries
  pub unacked : AllByRecursion (λ e. is_apart e ≡ false) adding.entries
  pub acks_none : last_moment new.past ≡ last_moment old.past
  pub writer_stays : (s : ℕ) → s ≢ t → old.writer ≡ Some s → new.writer ≡ Some s
  -- none but an item that asks to write takes the right to
  pub may_write : new.writer ≡ Some t → (old.writer ≡ Some t) ⊎ AsksToWrite t old.past
  pub tasks_stay : (s : ℕ) → s ≢ t → task_of s new ≡ task_of s old

-- the edge of a wait for the one plain lock
abbrev pub plain_edge : ℕ → ℕ → Edge
plain_edge waiter holder =
    record {
      waiter = waiter;
      holder = holder;
      lock = record
          { txn = holder; spot = record { index = 0; key = None }; kind = Rec; mode = X; reason = record { rule = 0; item = 0; level = RepeatableRead } };
    }

-- the number of the session's open transaction, or 0
abbrev pub open_txn : ℕ → List Event → ℕ
open_txn s past = if is_some (level s past) then txn s past else 0

-- the session's item asks to write, and waits for one other, which alone may
pub record WaitsFor (s by : ℕ) (blockers : List Edge) (state : State) : Type 0 where
  pub asks : AsksToWrite s state.past
  pub other : by ≢ s
  pub holds : state.writer ≡ Some by
  pub is_open : IsOpen by state.past
  pub edge : blockers ≡ plain_edge (open_txn s state.past) (txn by state.past) ∷ []

-- What a step does, by its answer: a statement that goes on has what holds of it between its steps.
abbrev pub Steps : {M : Type 0} → (State → ℕ → M → Type 0) → ℕ → State → State → M → Advance → Type 0
Steps IsRunning s old new statement advance.Went = Moves s old new × IsRunning new s statement × (started s new.past ≡ started s old.past)
Steps IsRunning s old new statement (advance.Waiting by blockers) = Stays s old new × IsRunning new s statement × WaitsFor s by blockers old
Steps IsRunning s old new statement advance.NoMemory = Moves s old new × IsRunning new s statement × (new.past ≡ old.past)
Steps IsRunning s old new statement (advance.Done reply) =
    Moves s old new × (new.past ≡ Ended s (started s old.past) reply ∷ old.past) × HasRowsAlone s old.past × (task_of s new ≡ Idle)

-- After the acknowledgement of the session's commit its statement goes on as another one.
abbrev pub GoesOnAcked : {M : Type 0} → (State → ℕ → M → Type 0) → M → M → Type 0
GoesOnAcked {M} IsRunning before after = (old new : State) (s moment : ℕ) → IsRunning old s before → Adds (Acked s moment) s old new → IsRunning new s after

-- A step of another session, or one that joins, leaves what holds of a statement between its steps.
abbrev pub StaysRunning : {M : Type 0} → (State → ℕ → M → Type 0) → Type 0
StaysRunning {M} IsRunning =
    (old new : State) (t s : ℕ) (statement : M) → t ≢ s → Adding t old new → (old.writer ≡ Some s → new.writer ≡ Some s) → task_of s new ≡ task_of s old →
    IsRunning old s statement → IsRunning new s statement
