use Rattle.statement.proofs.Acked.{moves_on_acked}
use Rattle.statement.proofs.under_way.Statement.an_acknowledgement_moves_it_on.Goals as goal

pub returns : goal.returns
returns c = moves_on_acked
