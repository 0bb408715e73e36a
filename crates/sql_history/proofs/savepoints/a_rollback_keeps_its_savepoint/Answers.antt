use Rattle.sql_history.proofs.Saves.{kept_behind}
use Rattle.sql_history.proofs.savepoints.a_rollback_keeps_its_savepoint.Goals as goal

pub returns : goal.returns
returns c = kept_behind
