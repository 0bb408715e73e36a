use Rattle.shared_engine.proofs.Zeros.{zeros}
use Rattle.shared_engine.proofs.patience.Patience.new.Goals as goal

pub returns : goal.returns
returns c = zeros 68
