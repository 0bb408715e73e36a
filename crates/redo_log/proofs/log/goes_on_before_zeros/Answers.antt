use Rattle.redo_log.proofs.GoesOn.{goes_on}
use Rattle.redo_log.proofs.log.goes_on_before_zeros.Goals as goal

pub returns : goal.returns
returns c = goes_on
