use Rattle.transaction_statements.proofs.Moving.{moves_on_acked}
use Rattle.transaction_statements.proofs.statement.TransactionStatement.an_acknowledgement_moves_it_on.Goals as goal

pub returns : goal.returns
returns c = moves_on_acked
