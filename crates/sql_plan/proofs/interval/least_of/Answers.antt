use Rattle.std.proofs.Common.{arith}
use Rattle.std.proofs.lemmas.Grind.{common_steps}
use Rattle.sql_plan.proofs.interval.least_of.Goals as goal

pub loop-literal-preserved : goal.loop-literal-preserved
loop-literal-preserved c = grind (arith, common_steps) steps 2000000

pub returns : goal.returns
returns c = grind (arith, common_steps) steps 2000000
