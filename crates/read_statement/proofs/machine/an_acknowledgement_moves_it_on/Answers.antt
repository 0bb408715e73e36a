use Rattle.read_statement.proofs.Entries.{moves_on_acked}
use Rattle.read_statement.proofs.machine.an_acknowledgement_moves_it_on.Goals as goal

pub returns : goal.returns
returns c = moves_on_acked
