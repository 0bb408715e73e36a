use Rattle.std.proofs.Common.{arith}
use Rattle.std.proofs.lemmas.Grind.{common_steps}
use Rattle.script_play.proofs.parts.join_all.Goals as goal

pub loop-parts-preserved : goal.loop-parts-preserved
loop-parts-preserved g c = grind (arith, common_steps) steps 2000000
