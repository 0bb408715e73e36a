-- What a statement on transactions knows of the past between its steps, and what it has under way.
use Rattle.std.specs.Prelude.{◌≡◌, ℕ, ◌<◌, Bool, true, false, List, [], None, Some, length}
use Rattle.inno_types.specs.declared.lock.Level.{Level}
use Rattle.inno_types.specs.declared.lock.Level.TheVariants.{RepeatableRead}
use Rattle.inno_types.specs.declared.stmt.Stmt.TheVariants as stmt
use Rattle.inno_model.specs.declared.event.Event.{Event}
use Rattle.inno_model.specs.Past.{of_item, did, takes_view, commits_txn, level, own, view_of, awaits_ack, IsClosed}
use Rattle.sql_history.specs.Settings.{Setting, next_level, made_at}
use Rattle.shared_lists.specs.Tasks.{Task, Idle, Undoing}
use Rattle.shared_lists.specs.State.{State, task_of}
use Rattle.sql_lists.specs.Kept.{SetsQuietly}
use Rattle.transaction_statements.specs.declared.statement.TransactionStatement.{TransactionStatement}
use Rattle.transaction_statements.specs.declared.statement.TransactionStatement.TheVariants as statements
use Rattle.transaction_statements.specs.Committing.{stmt_of, set_by, Fits, SetsAlone}
use Rattle.giving_up.specs.Ends.{IsEmptied, IsGivingUp}
use Rattle.transaction_statements.specs.Knowing.{IsAt, HasOpened, SavesIn, IsGoingBack, IsMissing}

-- nothing is known of what was set
abbrev pub Nothing : Setting → Type 0
Nothing setting = Unit {0}

-- what a statement knows of the past
abbrev pub RunsBy : List Event → ℕ → TransactionStatement → Type 0
RunsBy past s (statements.Quiet setter) =
    IsAt s (set_by setter) (SetsAlone (set_by setter)) past × (of_item s past ≡ []) × SetsQuietly (set_by setter) s past
RunsBy past s (statements.Missing name) = IsMissing s name past
RunsBy past s (statements.Committing committer) = IsAt s (stmt_of committer) (Fits committer) past × (of_item s past ≡ [])
RunsBy past s (statements.Unacked committer) = IsAt s (stmt_of committer) (Fits committer) past × IsEmptied s past × (awaits_ack (of_item s past) ≡ true)
RunsBy past s (statements.Closed committer) = IsAt s (stmt_of committer) (Fits committer) past × IsEmptied s past × (awaits_ack (of_item s past) ≡ false)
RunsBy past s statements.Viewing = IsAt s (stmt.Begin true) Nothing past × HasOpened s past × (level s past ≡ Some RepeatableRead) × (view_of s past ≡ None)
RunsBy past s statements.Unviewed = IsAt s (stmt.Begin true) Nothing past × HasOpened s past
RunsBy past s (statements.Begun snapshot) =
    IsAt s (stmt.Begin snapshot) Nothing past × HasOpened s past × (snapshot ≡ true → level s past ≡ Some RepeatableRead → did takes_view s past ≡ true)
RunsBy past s statements.Rollback = IsAt s stmt.Rollback Nothing past × (did commits_txn s past ≡ false) × (awaits_ack (of_item s past) ≡ false)
RunsBy past s (statements.RollbackTo name made) =
    IsAt s (stmt.RollbackTo name) (λ setting. made_at name setting.saves ≡ Some made) past × IsGoingBack s made past
RunsBy past s (statements.Opening name l) =
    IsAt s (stmt.Savepoint name) (λ setting. (setting.autocommit ≡ false) × (l ≡ next_level setting)) past × (of_item s past ≡ []) × IsClosed s past ×
    (own s past ≡ [])
RunsBy past s (statements.Saving name opened) =
    IsAt s (stmt.Savepoint name) (λ setting. opened ≡ true → setting.autocommit ≡ false) past × SavesIn opened s past
RunsBy past s statements.Failed = IsGivingUp s past
RunsBy past s statements.Ended = ⊥

-- nothing is under way with rows, or the newest change is being taken back, while more stand than are to be kept
abbrev pub TakesBackTo : ℕ → ℕ → Task → Type 0
TakesBackTo keep stand Idle = Unit {0}
TakesBackTo keep stand (Undoing left) = keep < stand
TakesBackTo keep stand other = ⊥

-- what the session has under way with rows, where so many of its changes stand: only a rollback has something
abbrev pub HasTask : TransactionStatement → ℕ → Task → Type 0
HasTask statements.Rollback stand task = TakesBackTo 0 stand task
HasTask (statements.RollbackTo name made) stand task = TakesBackTo made stand task
HasTask other stand task = task ≡ Idle

-- BEGIN with its transaction open
abbrev pub begun_at : Bool → Level → TransactionStatement
begun_at true RepeatableRead = statements.Viewing
begun_at snapshot l = statements.Begun snapshot

-- its commit is yet to be acknowledged
abbrev pub owes_ack : TransactionStatement → Bool
owes_ack (statements.Unacked committer) = true
owes_ack other = false

-- the statement behind that
abbrev pub acked : TransactionStatement → TransactionStatement
acked (statements.Unacked committer) = statements.Closed committer
acked other = other

abbrev pub IsRunning : State → ℕ → TransactionStatement → Type 0
IsRunning state s statement = RunsBy state.past s statement × HasTask statement (length (own s state.past)) (task_of s state)
