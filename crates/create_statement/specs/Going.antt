-- How far a CREATE TABLE is from its end.
use Rattle.std.specs.Prelude.{ℕ, List}
use Rattle.shared_lists.specs.State.{State}
use Rattle.sql_lists.specs.Going.{left}
use Rattle.create_statement.specs.declared.machine.CreateStatement.{CreateStatement}
use Rattle.create_statement.specs.declared.machine.CreateStatement.TheVariants as machine

abbrev pub to_go : ℕ → State → CreateStatement → List ℕ
to_go s state (machine.Asked stmt level) = left 6 0 0 0
to_go s state (machine.Unacked stmt level) = left 5 0 0 0
to_go s state (machine.Closed stmt level) = left 4 0 0 0
to_go s state (machine.Committed stmt) = left 3 0 0 0
to_go s state (machine.Ending stmt) = left 2 0 0 0
to_go s state machine.Failed = left 0 0 0 0
to_go s state machine.Ended = left 0 0 0 0
