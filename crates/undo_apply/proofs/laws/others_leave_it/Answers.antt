use Rattle.undo_apply.proofs.Goes.{others_leave}
use Rattle.undo_apply.proofs.laws.others_leave_it.Goals as goal

pub returns : goal.returns
returns c = others_leave
