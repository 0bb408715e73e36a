use Rattle.std.proofs.Common.{arith}
use Rattle.std.proofs.lemmas.Grind.{common_steps}
use Rattle.engine.proofs.layout.lay_tables.Goals as goal

pub loop-schema-preserved : goal.loop-schema-preserved
loop-schema-preserved c = grind (arith, common_steps) steps 2000000
