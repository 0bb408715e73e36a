use Rattle.law_db.proofs.Rows.{rows_of-apply}
use Rattle.law_db.proofs.rows_follow_the_changes.Goals as goal

pub returns : goal.returns
returns c = λ table schema db changes keyed is there. rows_of-apply table schema db changes keyed is there
