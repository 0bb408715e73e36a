use Rattle.write_statement.proofs.Others.{stays}
use Rattle.write_statement.proofs.machine.others_leave_it.Goals as goal

pub returns : goal.returns
returns c = stays
