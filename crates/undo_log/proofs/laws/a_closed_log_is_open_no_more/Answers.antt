use Rattle.undo_log.proofs.Slotted.{closed_is_shut}
use Rattle.undo_log.proofs.laws.a_closed_log_is_open_no_more.Goals as goal

pub returns : goal.returns
returns c = λ slot old new closes told below only other. closed_is_shut slot old new closes told below only other
