use Rattle.sql_history.proofs.Pasts.{commit_leaves_snapshot}
use Rattle.sql_history.proofs.databases.a_commit_leaves_others_snapshots.Goals as goal

pub returns : goal.returns
returns c = commit_leaves_snapshot
