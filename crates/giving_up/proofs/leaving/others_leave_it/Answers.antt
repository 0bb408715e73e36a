use Rattle.giving_up.proofs.Others.{stays}
use Rattle.giving_up.proofs.leaving.others_leave_it.Goals as goal

pub returns : goal.returns
returns c = stays
