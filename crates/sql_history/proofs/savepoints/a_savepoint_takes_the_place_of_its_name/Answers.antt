use Rattle.sql_history.proofs.Saves.{kept_at}
use Rattle.sql_history.proofs.savepoints.a_savepoint_takes_the_place_of_its_name.Goals as goal

pub returns : goal.returns
returns c = kept_at
