use Rattle.write_statement.proofs.Committing.{moves_on_acked}
use Rattle.write_statement.proofs.machine.an_acknowledgement_moves_it_on.Goals as goal

pub returns : goal.returns
returns c = moves_on_acked
