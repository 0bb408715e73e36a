use Rattle.sql_history.proofs.Pasts.{commit_adds}
use Rattle.sql_history.proofs.databases.a_commit_adds_its_changes.Goals as goal

pub returns : goal.returns
returns c = commit_adds
