use Rattle.undo_apply.proofs.Hindrances.{never_hindered}
use Rattle.undo_apply.proofs.laws.nothing_hinders_at_hand.Goals as goal

pub returns : goal.returns
returns c = λ chains beside place actor undo room next old new answer was is alone puts.
    never_hindered actor old new was is alone chains beside place undo room next answer puts
