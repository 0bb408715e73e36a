-- What holds of a SELECT between its steps.
use Rattle.std.specs.Prelude.{◌≡◌, ◌≢◌, ◌⊎◌, ℕ, ◌+◌, ◌<◌, Bool, true, false, Some, None, List, [], length}
use Rattle.std.specs.List.{AllByRecursion}
use Rattle.inno_types.specs.declared.lock.Level.{Level}
use Rattle.inno_types.specs.declared.lock.Level.TheVariants.{RepeatableRead, Serializable}
use Rattle.inno_types.specs.declared.stmt.Stmt.{Stmt}
use Rattle.inno_types.specs.declared.value.Value.{Value}
use Rattle.inno_types.specs.declared.reply.Reply.{Reply}
use Rattle.inno_types.specs.declared.reply.Reply.TheVariants as replies
use Rattle.inno_db.specs.Database.{Database}
use Rattle.inno_db.specs.Outcome.{outcome}
use Rattle.inno_db.specs.Refusals.{refusal}
use Rattle.inno_model.specs.declared.event.Event.{Event}
use Rattle.inno_model.specs.declared.event.Event.TheVariants as events
use Rattle.inno_model.specs.Past.{before_item, of_item, did, begins_txn, takes_view, level, own, view_of, IsOpen, IsClosed}
use Rattle.sql_grammar.specs.Grammar.{Spells}
use Rattle.sql_history.specs.Items.{own_before}
use Rattle.sql_history.specs.Settings.{next_level}
use Rattle.sql_history.specs.Statements.{Sight, plain_sight}
use Rattle.sql_history.specs.Readings.{is_plain_select}
use Rattle.sql_history.specs.Answers.{MaySee}
use Rattle.sql_history.specs.Counts.{rows_of_reply, rows_kept, most_rows}
use Rattle.sql_history.specs.Legal.{Takes, TakesView}
use Rattle.law_past_agreement.specs.Order.{created, IsTabled}
use Rattle.law_past_agreement.specs.Rows.{seen}
use Rattle.sql_plan.specs.declared.choice.Plan.{Plan}
use Rattle.shared_lists.specs.declared.answers.Reading.TheVariants.{View}
use Rattle.shared_lists.specs.Tasks.{Task, Idle, Searching}
use Rattle.shared_lists.specs.State.{State, task_of}
use Rattle.shared_lists.specs.Steps.{AreRowsSeen, AreNewestRows}
use Rattle.sql_lists.specs.Steps.{IsTaken, HasRowsAlone}
use Rattle.giving_up.specs.Leaving.{IsLeaving, owes_ack as leaving_owes_ack, acked as leaving_acked}
use Rattle.read_statement.specs.declared.machine.Asked.{Asked}
use Rattle.read_statement.specs.declared.machine.Read.{Read}
use Rattle.read_statement.specs.declared.machine.Found.{Found}
use Rattle.read_statement.specs.declared.machine.ReadStatement.{ReadStatement}
use Rattle.read_statement.specs.declared.machine.ReadStatement.TheVariants as machine
use Rattle.read_statement.specs.Planning.{IsPlanned}

-- A statement that was taken with these settings.
pub record IsTakenWith (autocommit : Bool) (l : Level) (s : ℕ) (stmt : Stmt) (past : List Event) : Type 0 where
  pub taken : IsTaken s stmt past
  pub autocommit_is : taken.takes.setting.autocommit ≡ autocommit
  pub level_is : next_level taken.takes.setting ≡ l

-- Its text and the tables that are there don't refuse it, nor do they with tables that come later.
abbrev pub IsUnrefused : Stmt → List Event → Type 0
IsUnrefused stmt h = refusal (created h) stmt ≡ None

-- A SELECT that has done nothing yet.
pub record IsOpening (h : List Event) (s : ℕ) (asked : Asked) : Type 0 where
  pub takes : Takes Spells s asked.stmt h
  pub plain : is_plain_select asked.stmt ≡ true
  pub nothing : of_item s h ≡ []
  pub rows_alone : HasRowsAlone s h
  pub autocommit_is : takes.setting.autocommit ≡ asked.autocommit
  pub level_is : next_level takes.setting ≡ asked.level
  pub unrefused : IsUnrefused asked.stmt h

-- ---- before the end of its transaction

-- an entry other than one by which a transaction begins or takes a view
abbrev pub strays : Event → Bool
strays (events.Begin s number l) = false
strays (events.View s) = false
strays other = true

-- It is a transaction of its own; or it works in one that stays open behind it.
abbrev pub IsIn : Bool → Bool → ℕ → List Event → Type 0
IsIn true autocommit s h = (autocommit ≡ true) × IsClosed s (before_item s h) × (own s (before_item s h) ≡ []) × (did begins_txn s h ≡ true)
IsIn false autocommit s h =
    ((level s h ≡ level s (before_item s h)) × (did begins_txn s h ≡ false))
    ⊎ ((autocommit ≡ false) × IsClosed s (before_item s h) × (own s (before_item s h) ≡ []) × (did begins_txn s h ≡ true))

-- It has changed and ended nothing.
pub record IsEarly (h : List Event) (s : ℕ) (stmt : Stmt) (alone : Bool) : Type 0 where
  pub takes : Takes Spells s stmt h
  pub plain : is_plain_select stmt ≡ true
  pub goes_on : did strays s h ≡ false
  pub own_is : own s h ≡ own s (before_item s h)
  pub before_is : own s h ≡ own_before s h
  pub in_txn : IsIn alone takes.setting.autocommit s h
  pub rows_alone : HasRowsAlone s h
  pub unrefused : IsUnrefused stmt h

-- a consistent read at READ COMMITTED has taken a view of its own
abbrev pub HasViewed : Level → ℕ → List Event → Type 0
HasViewed l s h = plain_sight l false ≡ Sight.of_view → l ≢ RepeatableRead → did takes_view s h ≡ true

-- It has the view that it reads by.
pub record HasView (h : List Event) (s : ℕ) : Type 0 where
  pub l : Level
  pub level_is : level s h ≡ Some l
  pub by_view : (alone : Bool) → plain_sight l alone ≡ Sight.of_view
  pub viewed : HasViewed l s h
  pub number : ℕ
  pub view_is : view_of s h ≡ Some number

-- It searches its table by its view, by the plan that was chosen.
pub record IsSearching (h : List Event) (s : ℕ) (task : Task) (read : Read) : Type 0 where
  pub early : IsEarly h s read.stmt read.alone
  pub is_open : IsOpen s h
  pub view : HasView h s
  pub plan : Plan
  pub planned : IsPlanned (created h) read.stmt read.table plan
  pub task_is : task ≡ Searching read.table plan View

-- It has the rows in its plan's range of what its view shows, where all changes are of tables that are there.
pub record HasFound (h : List Event) (s : ℕ) (found : Found) : Type 0 where
  pub early : IsEarly h s found.stmt found.alone
  pub is_open : IsOpen s h
  pub view : HasView h s
  pub plan : Plan
  pub planned : IsPlanned (created h) found.stmt found.table plan
  pub tabled : AllByRecursion (IsTabled (length (created h))) (seen h s view.number)
  pub rows : AreRowsSeen found.table plan h s view.number found.rows

-- These are the newest rows of the statement's table that its plan asks for, or all of them.
pub record AreRead (h : List Event) (stmt : Stmt) (table : ℕ) (rows : List (List Value)) : Type 0 where
  pub plan : Plan
  pub planned : IsPlanned (created h) stmt table plan
  pub newest : (writer : ℕ) → ((other : ℕ) → other ≢ writer → own other h ≡ []) → AreNewestRows table plan h writer rows

-- ---- a settled reply

-- the reply is that of the statement over a database that it may see
pub record IsFound (h : List Event) (s : ℕ) (stmt : Stmt) (reply : Reply) : Type 0 where
  pub l : Level
  pub level_is : level s h ≡ Some l
  pub alike : plain_sight l true ≡ plain_sight l false
  pub db : Database
  pub sees : MaySee (plain_sight l false) s stmt db h
  pub answer : reply ≡ (outcome stmt db).reply

-- that reply, of an item that has the view which it reads by
pub record IsSeen (h : List Event) (s : ℕ) (stmt : Stmt) (reply : Reply) : Type 0 where
  pub found : IsFound h s stmt reply
  pub viewed : HasViewed found.l s h

-- with so many rows more the history held too many
pub record IsTooMany (rows : ℕ) (h : List Event) (s : ℕ) (stmt : Stmt) : Type 0 where
  pub many : most_rows < rows
  pub reply : Reply
  pub found : IsFound h s stmt reply
  pub sum : rows ≡ rows_kept h + rows_of_reply reply

-- what stands behind a reply: rows or a refusal, and where it is broken off the limit
abbrev pub IsSettledBy : Reply → List Event → ℕ → Stmt → Type 0
IsSettledBy (replies.Rows rows) h s stmt = IsSeen h s stmt (replies.Rows rows)
IsSettledBy (replies.Fail error) h s stmt = IsSeen h s stmt (replies.Fail error)
IsSettledBy (replies.RunLimit rows) h s stmt = IsTooMany rows h s stmt
IsSettledBy other h s stmt = ⊥

-- rows or a refusal
abbrev pub answers_rows : Reply → Bool
answers_rows (replies.Rows rows) = true
answers_rows (replies.Fail error) = true
answers_rows other = false

-- The reply is settled, and the transaction is open.
pub record IsAnswered (h : List Event) (s : ℕ) (alone : Bool) (kept given : Reply) : Type 0 where
  pub same : given ≡ kept
  pub stmt : Stmt
  pub early : IsEarly h s stmt alone
  pub is_open : IsOpen s h
  pub settled : IsSettledBy kept h s stmt

-- where a view is to be taken
abbrev pub MayTakeView : ℕ → List Event → Type 0
MayTakeView s h = (l : Level) × (level s h ≡ Some l) × ((alone : Bool) → plain_sight l alone ≡ Sight.of_view) × (l ≢ Serializable) × TakesView l s h

-- it searches its table
abbrev pub is_searching : ReadStatement → Bool
is_searching (machine.Searching read) = true
is_searching other = false

-- its commit is yet to be acknowledged
abbrev pub owes_ack : ReadStatement → Bool
owes_ack (machine.Leaving leaving) = leaving_owes_ack leaving
owes_ack other = false

-- the statement behind that
abbrev pub acked : ReadStatement → ReadStatement
acked (machine.Leaving leaving) = machine.Leaving (leaving_acked leaving)
acked other = other

-- what a SELECT knows of the past, and of what its session has under way
abbrev pub IsRunning : State → ℕ → ReadStatement → Type 0
IsRunning state s (machine.Opening asked) = IsOpening state.past s asked × (task_of s state ≡ Idle)
IsRunning state s (machine.Open stmt alone) =
    IsEarly state.past s stmt alone × IsOpen s state.past × (did takes_view s state.past ≡ false) × (task_of s state ≡ Idle)
IsRunning state s (machine.Viewed stmt alone) = IsEarly state.past s stmt alone × IsOpen s state.past × HasView state.past s × (task_of s state ≡ Idle)
IsRunning state s (machine.Searching read) = IsSearching state.past s (task_of s state) read
IsRunning state s (machine.Found found) = HasFound state.past s found × (task_of s state ≡ Idle)
IsRunning state s (machine.Leaving leaving) = IsLeaving state s leaving
