use Rattle.transaction_statements.proofs.Others.{stays}
use Rattle.transaction_statements.proofs.statement.TransactionStatement.others_leave_it.Goals as goal

pub returns : goal.returns
returns c = stays
