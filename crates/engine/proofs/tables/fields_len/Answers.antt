use Rattle.std.proofs.Common.{arith}
use Rattle.std.proofs.lemmas.Grind.{common_steps}
use Rattle.engine.proofs.tables.fields_len.Goals as goal

pub loop-column-preserved : goal.loop-column-preserved
loop-column-preserved c = grind (arith, common_steps) steps 2000000

pub returns-clause-sum : goal.returns-clause-sum
returns-clause-sum c = grind (arith, common_steps) steps 2000000
