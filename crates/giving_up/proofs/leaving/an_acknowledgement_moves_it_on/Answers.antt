use Rattle.giving_up.proofs.Closing.{moves_on_acked}
use Rattle.giving_up.proofs.leaving.an_acknowledgement_moves_it_on.Goals as goal

pub returns : goal.returns
returns c = moves_on_acked
