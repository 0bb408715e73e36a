use Rattle.sql_conditions.specs.Conditions.{operand_step}
use Rattle.std.proofs.Common.{arith}
use Rattle.std.proofs.lemmas.Grind.{common_steps}
use Rattle.sql_conditions.proofs.conditions.step.Goals as goal

pub returns-in_ok-push-in-Key-clause-exact : goal.returns-in_ok-push-in-Key-clause-exact
unfolding operand_step
returns-in_ok-push-in-Key-clause-exact c = grind (arith, common_steps) steps 2000000

pub returns-in_ok-push-in-Key-clause-spelled : goal.returns-in_ok-push-in-Key-clause-spelled
unfolding operand_step
returns-in_ok-push-in-Key-clause-spelled c = grind (arith, common_steps) steps 2000000

pub returns-in_ok-push-in-Open-clause-exact : goal.returns-in_ok-push-in-Open-clause-exact
unfolding operand_step
returns-in_ok-push-in-Open-clause-exact c = grind (arith, common_steps) steps 2000000

pub returns-in_ok-push-in-Open-clause-spelled : goal.returns-in_ok-push-in-Open-clause-spelled
unfolding operand_step
returns-in_ok-push-in-Open-clause-spelled c = grind (arith, common_steps) steps 2000000
