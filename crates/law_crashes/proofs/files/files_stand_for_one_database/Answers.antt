use Rattle.law_crashes.proofs.Prefix.{one_db}
use Rattle.law_crashes.proofs.files.files_stand_for_one_database.Goals as goal

pub returns : goal.returns
returns c = one_db
