use Rattle.read_statement.proofs.Staying.{stays}
use Rattle.read_statement.proofs.machine.others_leave_it.Goals as goal

pub returns : goal.returns
returns c = stays
