use Rattle.std.proofs.Common.{arith}
use Rattle.std.proofs.lemmas.Grind.{common_steps}
use Rattle.commit_log.proofs.drafts.Drafts.join.Goals as goal

pub invariant_of-self-2 : goal.invariant_of-self-2
invariant_of-self-2 c = grind (arith, common_steps) steps 2000000

pub returns-clause-promised : goal.returns-clause-promised
returns-clause-promised c = grind (arith, common_steps) steps 2000000
