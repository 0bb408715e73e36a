use Rattle.sql_history.proofs.Pasts.{snapshot_without_own}
use Rattle.sql_history.proofs.databases.without_own_changes_a_snapshot_is_committed.Goals as goal

pub returns : goal.returns
returns c = snapshot_without_own
