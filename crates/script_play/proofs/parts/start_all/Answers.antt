use Rattle.std.proofs.Common.{arith}
use Rattle.std.proofs.lemmas.Grind.{common_steps}
use Rattle.script_play.proofs.parts.start_all.Goals as goal

pub loop-sessions-preserved : goal.loop-sessions-preserved
loop-sessions-preserved g c = grind (arith, common_steps) steps 2000000
