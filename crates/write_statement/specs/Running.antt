-- What the machine knows between its steps: of the past, of who may write, and of what the session has under way.
use Rattle.std.specs.Prelude.{◌≡◌, ℕ, ◌+◌, ◌<◌, ◌≤◌, ◌⊎◌, Bool, true, false, Option, Some, None, List, [], ◌∷◌, ◌++◌, length, reverse, slice_get}
use Rattle.std.specs.declared.vec.Vec.{Vec}
use Rattle.std.specs.declared.alloc.Global.{Global}
use Rattle.inno_types.specs.declared.value.Value.{Value}
use Rattle.inno_types.specs.declared.value.Schema.{Schema}
use Rattle.inno_types.specs.declared.stmt.Stmt.{Stmt}
use Rattle.inno_types.specs.declared.stmt.Stmt.TheVariants as stmt
use Rattle.inno_types.specs.declared.reply.Reply.{Reply}
use Rattle.inno_types.specs.declared.reply.Reply.TheVariants as replies
use Rattle.inno_types.specs.declared.reply.SqlError.TheVariants.{Duplicate}
use Rattle.inno_db.specs.declared.change.Change.{Change}
use Rattle.inno_db.specs.declared.outcome.Outcome.{Outcome}
use Rattle.inno_db.specs.Database.{Database, Place}
use Rattle.inno_db.specs.Outcome.{outcome, table_read}
use Rattle.inno_db.specs.Refusals.{refusal}
use Rattle.inno_model.specs.declared.event.Event.{Event}
use Rattle.inno_model.specs.declared.event.Event.TheVariants.{Changed}
use Rattle.inno_model.specs.Past.{did, own, commits, current}
use Rattle.sql_history.specs.Items.{is_over, own_before, base, undoes}
use Rattle.sql_history.specs.Legal.{IsWriting}
use Rattle.sql_history.specs.Counts.{rows_of_entry, rows_kept, most_rows}
use Rattle.law_past_agreement.specs.Order.{created, IsOfRow}
use Rattle.plain_sql.specs.Finding.{IsReadFrom}
use Rattle.shared_lists.specs.declared.answers.Reading.TheVariants.{Newest}
use Rattle.shared_lists.specs.Tasks.{Task, Idle, Searching, is_changing, asked}
use Rattle.shared_lists.specs.State.{State, task_of}
use Rattle.shared_lists.specs.Steps.{AreRowsSeen}
use Rattle.sql_plan.specs.declared.choice.Plan.{Plan}
use Rattle.law_claims.specs.Claims.{Basis, KeepsBasis, Stands}
use Rattle.sql_lists.specs.Steps.{IsTaken}
use Rattle.sql_plan.specs.Planning.{HoldsMatches}
use Rattle.write_statement.specs.declared.machine.Part.{Part}
use Rattle.write_statement.specs.declared.machine.WriteStatement.{WriteStatement}
use Rattle.write_statement.specs.declared.machine.WriteStatement.TheVariants as machine
use Rattle.giving_up.specs.Leaving.{IsWorking, IsLeaving, owes_ack as leaving_owes_ack, acked as leaving_acked}
use Rattle.write_statement.specs.Parts.{IsCut, GoesOnWith, behind, of_part, of_rest}

-- It takes none of its changes back.
pub record GoesOn (s : ℕ) (past : List Event) : Type 0 where
  pub not_over : is_over s past ≡ false
  pub not_undone : did undoes s past ≡ false

-- Its text and the tables that are there don't refuse it, nor do they with tables that come later.
abbrev pub IsUnrefused : Stmt → List Event → Type 0
IsUnrefused statement past = refusal (created past) statement ≡ None

-- It has changed nothing yet.
pub record IsEarly (s : ℕ) (statement : Stmt) (alone : Bool) (past : List Event) : Type 0 where
  pub working : IsWorking s statement alone past
  pub goes_on : GoesOn s past
  pub unchanged : own s past ≡ own_before s past
  pub unrefused : IsUnrefused statement past

-- ---- what it keeps

-- the rows that an UPDATE or DELETE searches for; an INSERT rests on the places of its rows
abbrev pub search_of : Stmt → Option Stmt
search_of (stmt.Update table sets condition) = Some (stmt.Update table sets condition)
search_of (stmt.Delete table condition) = Some (stmt.Delete table condition)
search_of other = None

-- the place of the row for which a tuple was refused
abbrev pub refused_at : ℕ → Reply → Option Place
refused_at table (replies.Fail (Duplicate key)) = Some (table, key)
refused_at table other = None

-- What changes that are made or to be made rest on: their places; and the rows that the statement has searched for.
abbrev pub basis_for : Option Stmt → List Change → Basis
basis_for searched changes = record { changes = changes; searched = searched; refused_at = None }

-- ---- its parts

-- Its item has made some of its changes, and is about to make these, the next one last. Nothing refuses it so far.
pub record IsChanging (past : List Event) (writer : Option ℕ) (s : ℕ) (part : Part) (next : Database → Outcome) (todo : List Change) : Type 0 where
  pub statement : Stmt
  pub working : IsWorking s statement part.alone past
  pub goes_on : GoesOn s past
  pub before_is : part.before ≡ length (own_before s past)
  pub tables : created past ≡ (base s past).schemas
  pub writes : IsWriting part.stmt
  pub cut : IsCut (created past) part.stmt (behind part)
  pub table_is : table_read (created past) part.stmt ≡ Some part.table
  -- the changes that are made
  pub made : List Change
  pub own_is : own s past ≡ reverse made ++ own_before s past
  -- what all of them rest on is kept; and on that stands what comes behind them
  pub searched : Option Stmt
  pub searched_is : (searched ≡ None) ⊎ (searched ≡ search_of part.stmt)
  pub keeps : KeepsBasis s (base s past).schemas (basis_for searched (todo ++ own s past)) past writer
  pub goes : Stands (basis_for searched (todo ++ own s past)) (λ db. GoesOnWith statement db (made ++ reverse todo) next) (base s past)

-- The plan of its search leaves out no row of its table that the part's outcome depends on.
pub record IsReading (past : List Event) (writer : Option ℕ) (s : ℕ) (part : Part) : Type 0 where
  pub changing : IsChanging past writer s part (of_part part) []
  pub schema : Schema
  pub there : slice_get (created past) part.table ≡ Some schema
  pub plan : Plan
  pub enough : HoldsMatches schema part.stmt plan

pub record IsSearching (past : List Event) (writer : Option ℕ) (task : Task) (s : ℕ) (part : Part) : Type 0 where
  pub reading : IsReading past writer s part
  pub task_is : task ≡ Searching part.table reading.plan Newest

-- its search is over, with these rows
pub record IsFound (state : State) (s : ℕ) (part : Part) (rows : List (List Value)) : Type 0 where
  pub reading : IsReading state.past state.writer s part
  pub idle : task_of s state ≡ Idle
  pub found : AreRowsSeen part.table reading.plan state.past s (commits state.past) rows

-- These rows of its table are enough for a part: over some database where the table has them, it has the outcome that it has
-- over the latest rows with those that the session has changed.
pub record AreEnough (s : ℕ) (statement : Stmt) (rows : List (List Value)) (past : List Event) : Type 0 where
  pub db : Database
  pub read : IsReadFrom (created past) rows statement db
  pub same : outcome statement db ≡ outcome statement (current s past)

-- the next change is under way, which the history doesn't tell yet
pub record IsMaking (past : List Event) (writer : Option ℕ) (task : Task) (s : ℕ) (part : Part) (todo : List Change) (rows : ℕ) : Type 0 where
  pub change : Change
  pub of_row : IsOfRow change
  pub rows_are : rows ≡ rows_of_entry (Changed s change)
  pub changing : IsChanging past writer s part (of_rest part) (todo ++ change ∷ [])
  pub under_way : is_changing task ≡ true
  pub asked_is : asked task ≡ Some change

-- the change under way is the newest that stands
pub record IsFinishing (past : List Event) (writer : Option ℕ) (task : Task) (s : ℕ) (part : Part) (todo : List Change) : Type 0 where
  pub changing : IsChanging past writer s part (of_rest part) todo
  pub under_way : is_changing task ≡ true
  pub told : asked task ≡ None
  pub stands : part.before < length (own s past)

-- all its changes are made
pub record IsMade (past : List Event) (writer : Option ℕ) (s : ℕ) (alone : Bool) (before : ℕ) : Type 0 where
  pub statement : Stmt
  pub working : IsWorking s statement alone past
  pub goes_on : GoesOn s past
  pub before_is : before ≡ length (own_before s past)
  pub answer : (outcome statement (base s past)).reply ≡ replies.Count (length (outcome statement (base s past)).changes)
  pub own_is : own s past ≡ reverse (outcome statement (base s past)).changes ++ own_before s past

-- it is about to tell a change to the history, for which an engine that logs its changes needs room in its log
abbrev pub wants_room : WriteStatement → Bool
wants_room (machine.Changing part todo) = true
wants_room (machine.Making part todo rows) = true
wants_room other = false

-- it searches its table
abbrev pub is_searching : WriteStatement → Bool
is_searching (machine.Searching part) = true
is_searching other = false

-- a change is under way
abbrev pub is_at_change : WriteStatement → Bool
is_at_change (machine.Making part todo rows) = true
is_at_change (machine.Finishing part todo) = true
is_at_change other = false

-- the part whose change is under way, and the changes behind that one
abbrev pub AreParts : WriteStatement → Part → Vec Change Global → Type 0
AreParts (machine.Making part todo rows) it behind_it = (it ≡ part) × (behind_it ≡ todo)
AreParts (machine.Finishing part todo) it behind_it = (it ≡ part) × (behind_it ≡ todo)
AreParts other it behind_it = ⊥

-- The history has room for the change under way, where it doesn't tell it yet.
abbrev pub HasRoomFor : WriteStatement → List Event → Type 0
HasRoomFor (machine.Making part todo rows) past = rows_kept past + rows ≤ most_rows
HasRoomFor other past = Unit {0}

-- its commit is yet to be acknowledged
abbrev pub owes_ack : WriteStatement → Bool
owes_ack (machine.Leaving leaving) = leaving_owes_ack leaving
owes_ack other = false

-- the statement behind that
abbrev pub acked : WriteStatement → WriteStatement
acked (machine.Leaving leaving) = machine.Leaving (leaving_acked leaving)
acked other = other

abbrev pub IsRunning : State → ℕ → WriteStatement → Type 0
IsRunning state s (machine.Fresh stmt) = IsTaken s stmt state.past × IsWriting stmt × (task_of s state ≡ Idle) × IsUnrefused stmt state.past
IsRunning state s (machine.Locking stmt alone) = IsEarly s stmt alone state.past × (task_of s state ≡ Idle)
IsRunning state s (machine.Searching part) = IsSearching state.past state.writer (task_of s state) s part
IsRunning state s (machine.Changing part todo) = IsChanging state.past state.writer s part (of_rest part) todo.items × (task_of s state ≡ Idle)
IsRunning state s (machine.Making part todo rows) = IsMaking state.past state.writer (task_of s state) s part todo.items rows
IsRunning state s (machine.Finishing part todo) = IsFinishing state.past state.writer (task_of s state) s part todo.items
IsRunning state s (machine.Leaving leaving) = IsLeaving state s leaving
