use Rattle.law_logged_histories.proofs.Records.{tables_loggable}
use Rattle.law_logged_histories.proofs.laws.each_table_can_be_logged.Goals as goal

pub returns : goal.returns
returns c = tables_loggable
