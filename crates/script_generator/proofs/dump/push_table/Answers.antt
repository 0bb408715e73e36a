use Rattle.script_generator.specs.Dump.{table_text}
use Rattle.std.proofs.Common.{arith}
use Rattle.std.proofs.lemmas.Grind.{common_steps}
use Rattle.script_generator.proofs.dump.push_table.Goals as goal

pub loop-row-preserved : goal.loop-row-preserved
unfolding table_text
loop-row-preserved c = grind (arith, common_steps) steps 2000000
