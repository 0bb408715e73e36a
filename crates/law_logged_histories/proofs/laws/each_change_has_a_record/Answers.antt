use Rattle.law_logged_histories.proofs.Records.{tables_loggable, have_records}
use Rattle.law_logged_histories.proofs.laws.each_change_has_a_record.Goals as goal

pub returns : goal.returns
returns c = λ past legal ordered none fits few all. have_records past ordered fits few (tables_loggable past legal ordered none all)
