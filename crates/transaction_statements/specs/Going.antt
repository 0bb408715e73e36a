-- How far a statement on transactions is from its end.
use Rattle.std.specs.Prelude.{ℕ, List, length}
use Rattle.inno_model.specs.Past.{own}
use Rattle.shared_lists.specs.Tasks.{undo_to_go}
use Rattle.shared_lists.specs.State.{State, task_of}
use Rattle.sql_lists.specs.Going.{left, to_roll_back}
use Rattle.transaction_statements.specs.declared.statement.TransactionStatement.{TransactionStatement}
use Rattle.transaction_statements.specs.declared.statement.TransactionStatement.TheVariants as statements

abbrev pub to_go : ℕ → State → TransactionStatement → List ℕ
to_go s state (statements.Quiet setter) = left 0 0 0 0
to_go s state (statements.Missing name) = left 0 0 0 0
to_go s state (statements.Committing committer) = left 5 0 0 0
to_go s state (statements.Unacked committer) = left 4 0 0 0
to_go s state (statements.Closed committer) = left 3 0 0 0
to_go s state statements.Viewing = left 2 0 0 0
to_go s state statements.Unviewed = left 1 0 0 0
to_go s state (statements.Begun snapshot) = left 1 0 0 0
to_go s state statements.Rollback = to_roll_back s state
-- the changes that stand, and what is left of the one that is being taken back
to_go s state (statements.RollbackTo name made) = left 1 0 (length (own s state.past)) (undo_to_go (task_of s state))
to_go s state (statements.Opening name l) = left 2 0 0 0
to_go s state (statements.Saving name opened) = left 1 0 0 0
to_go s state statements.Failed = left 0 0 0 0
to_go s state statements.Ended = left 0 0 0 0
