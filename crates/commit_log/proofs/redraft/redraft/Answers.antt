use Rattle.std.proofs.Common.{arith}
use Rattle.std.proofs.lemmas.Grind.{common_steps}
use Rattle.commit_log.proofs.redraft.redraft.Goals as goal

pub returns-in-Begin-clause-mine : goal.returns-in-Begin-clause-mine
returns-in-Begin-clause-mine c = grind (arith, common_steps) steps 2000000
