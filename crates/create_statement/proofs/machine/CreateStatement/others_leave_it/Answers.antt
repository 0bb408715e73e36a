use Rattle.create_statement.proofs.Others.{stays}
use Rattle.create_statement.proofs.machine.CreateStatement.others_leave_it.Goals as goal

pub returns : goal.returns
returns c = stays
