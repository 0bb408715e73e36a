use Rattle.create_statement.proofs.Moving.{moves_on_acked}
use Rattle.create_statement.proofs.machine.CreateStatement.an_acknowledgement_moves_it_on.Goals as goal

pub returns : goal.returns
returns c = moves_on_acked
