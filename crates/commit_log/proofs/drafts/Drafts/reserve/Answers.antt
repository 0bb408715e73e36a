use Rattle.std.proofs.Common.{arith}
use Rattle.std.proofs.lemmas.Grind.{common_steps}
use Rattle.commit_log.proofs.drafts.Drafts.reserve.Goals as goal

pub overflow_sub-others : goal.overflow_sub-others
overflow_sub-others c = grind (arith, common_steps) steps 2000000

pub invariant_of-self : goal.invariant_of-self
invariant_of-self c = grind (arith, common_steps) steps 2000000

pub returns-in_err-self-inside-clause-err : goal.returns-in_err-self-inside-clause-err
returns-in_err-self-inside-clause-err c = grind (arith, common_steps) steps 2000000

pub invariant_of-self-2 : goal.invariant_of-self-2
invariant_of-self-2 c = grind (arith, common_steps) steps 2000000

pub returns-clause-promised : goal.returns-clause-promised
returns-clause-promised c = grind (arith, common_steps) steps 2000000
