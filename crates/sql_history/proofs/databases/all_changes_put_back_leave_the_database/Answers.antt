use Rattle.sql_history.proofs.Pasts.{put_back}
use Rattle.sql_history.proofs.databases.all_changes_put_back_leave_the_database.Goals as goal

pub returns : goal.returns
returns c = put_back
