use Rattle.std.proofs.Common.{refl}
use Rattle.write_statement.proofs.machine.WriteStatement.step.Goals as goal

pub step_making-requires-clause-making : goal.step_making-requires-clause-making
step_making-requires-clause-making g c = (c.in-Making.part, c.in-Making.todo, refl)
