use Rattle.sql_history.proofs.Pasts.{view_counts}
use Rattle.sql_history.proofs.databases.a_later_view_sees_the_commit.Goals as goal

pub returns : goal.returns
returns c = view_counts
