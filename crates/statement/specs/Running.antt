-- What the engine knows of a statement between its steps. One that hasn't begun has nothing under way with rows.
use Rattle.std.specs.Prelude.{◌≡◌, ℕ, Bool, true, false, Some, None, List, []}
use Rattle.inno_types.specs.declared.stmt.Stmt.{Stmt}
use Rattle.inno_types.specs.declared.reply.Item.TheVariants.{Sql}
use Rattle.inno_model.specs.declared.event.Event.{Event}
use Rattle.inno_model.specs.Past.{under_way, of_item}
use Rattle.sql_grammar.specs.Grammar.{Spells}
use Rattle.sql_history.specs.Settings.{Setting, HasSet, next_level}
use Rattle.sql_history.specs.Statements.{is_select, refused_at_once}
use Rattle.sql_history.specs.Legal.{IsCreation, IsWriting}
use Rattle.sql_lists.specs.declared.advance.Advance.{Advance}
use Rattle.sql_lists.specs.declared.advance.Advance.TheVariants as advances
use Rattle.shared_lists.specs.Tasks.{Idle}
use Rattle.shared_lists.specs.State.{State, task_of}
use Rattle.sql_lists.specs.Steps.{HasRowsAlone}
use Rattle.transaction_statements.specs.Committing.{asked_by}
use Rattle.transaction_statements.specs.Running as of_transaction
use Rattle.create_statement.specs.Running as of_create
use Rattle.read_statement.specs.Running as of_read
use Rattle.write_statement.specs.Running as of_write
use Rattle.statement.specs.declared.under_way.Statement.{Statement}
use Rattle.statement.specs.declared.under_way.Statement.TheVariants as statements
use Rattle.statement.specs.declared.under_way.Kind.{Kind}
use Rattle.statement.specs.declared.under_way.Kind.TheVariants as kinds
use Rattle.statement.specs.declared.under_way.Look.{Look}
use Rattle.statement.specs.declared.under_way.Look.TheVariants as looks

-- the session's item is a text, and has done nothing
pub record HasOnlyStarted (s : ℕ) (text : List ℕ) (past : List Event) : Type 0 where
  pub item : under_way s past ≡ Some (Sql text)
  pub nothing : of_item s past ≡ []
  pub rows_alone : HasRowsAlone s past

-- the text spells no statement
abbrev pub IsNone : List ℕ → Type 0
IsNone text = (stmt : Stmt) → Spells text stmt → ⊥

abbrev pub IsRunning : State → ℕ → Statement → Type 0
IsRunning state s (statements.Asked stmt) = (text : List ℕ) × HasOnlyStarted s text state.past × Spells text stmt × (task_of s state ≡ Idle)
IsRunning state s (statements.Transaction statement) = of_transaction.IsRunning state s statement
IsRunning state s (statements.Create statement) = of_create.IsRunning state s statement
IsRunning state s (statements.Read statement) = of_read.IsRunning state s statement
IsRunning state s (statements.Write statement) = of_write.IsRunning state s statement
IsRunning state s statements.Failed = (text : List ℕ) × HasOnlyStarted s text state.past × (task_of s state ≡ Idle)
IsRunning state s statements.Ended = ⊥

-- its step makes another statement of it; a SELECT, or one that changes rows, steps where it lies
abbrev pub goes_over : Statement → Bool
goes_over (statements.Read statement) = false
goes_over (statements.Write statement) = false
goes_over other = true

-- its commit is yet to be acknowledged
abbrev pub owes_ack : Statement → Bool
owes_ack (statements.Transaction statement) = of_transaction.owes_ack statement
owes_ack (statements.Create statement) = of_create.owes_ack statement
owes_ack (statements.Read statement) = of_read.owes_ack statement
owes_ack (statements.Write statement) = of_write.owes_ack statement
owes_ack other = false

-- the statement behind that
abbrev pub acked : Statement → Statement
acked (statements.Transaction statement) = statements.Transaction (of_transaction.acked statement)
acked (statements.Create statement) = statements.Create (of_create.acked statement)
acked (statements.Read statement) = statements.Read (of_read.acked statement)
acked (statements.Write statement) = statements.Write (of_write.acked statement)
acked other = other

-- it is about to tell a change to the history, for which an engine that logs its changes needs room in its log
abbrev pub wants_room : Statement → Bool
wants_room (statements.Create statement) = of_create.wants_room statement
wants_room (statements.Write statement) = of_write.wants_room statement
wants_room other = false

-- ---- before it begins

abbrev pub IsOfKind : Kind → Stmt → Type 0
IsOfKind kinds.Create stmt = IsCreation stmt
IsOfKind kinds.Read stmt = is_select stmt ≡ true
IsOfKind kinds.Write stmt = IsWriting stmt
IsOfKind (kinds.Transaction command) stmt = stmt ≡ asked_by command

-- what is found of a statement before it begins, by what its session has set
abbrev pub LooksAs : ℕ → Stmt → List Event → Look → Type 0
LooksAs s stmt past (looks.Refused error) = (setting : Setting) × HasSet Spells s past setting × (refused_at_once s setting stmt past ≡ Some error)
LooksAs s stmt past (looks.Ready ready) =
    (setting : Setting) × HasSet Spells s past setting × (refused_at_once s setting stmt past ≡ None) × (setting.autocommit ≡ ready.autocommit) ×
    (next_level setting ≡ ready.level) × IsOfKind ready.kind stmt

-- the machine of its kind is at work
abbrev pub IsBegun : Statement → Type 0
IsBegun (statements.Transaction statement) = Unit {0}
IsBegun (statements.Create statement) = Unit {0}
IsBegun (statements.Read statement) = Unit {0}
IsBegun (statements.Write statement) = Unit {0}
IsBegun other = ⊥

abbrev pub is_done : Advance → Bool
is_done (advances.Done reply) = true
is_done other = false
