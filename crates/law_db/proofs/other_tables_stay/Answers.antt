use Rattle.inno_db.proofs.Applying.{rows_of-all_elsewhere}
use Rattle.law_db.proofs.other_tables_stay.Goals as goal

pub returns : goal.returns
returns c = λ table db changes elsewhere. rows_of-all_elsewhere table db changes elsewhere
