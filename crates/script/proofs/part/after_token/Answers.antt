use Rattle.std.proofs.Common.{arith}
use Rattle.std.proofs.lemmas.Grind.{common_steps}
use Rattle.script.specs.Parts.{after_token}
use Rattle.script.proofs.part.after_token.Goals as goal

pub returns-in-47-clause-value : goal.returns-in-47-clause-value
unfolding after_token
returns-in-47-clause-value c = grind (arith, common_steps)

pub returns-in-96-clause-value : goal.returns-in-96-clause-value
unfolding after_token
returns-in-96-clause-value c = grind (arith, common_steps)

pub returns-in-empty-clause-value : goal.returns-in-empty-clause-value
unfolding after_token
returns-in-empty-clause-value c = grind (arith, common_steps)

pub returns-in-len1-up-2-clause-value : goal.returns-in-len1-up-2-clause-value
unfolding after_token
returns-in-len1-up-2-clause-value c = grind (arith, common_steps)

pub returns-in-len1-up-3-clause-value : goal.returns-in-len1-up-3-clause-value
unfolding after_token
returns-in-len1-up-3-clause-value c = grind (arith, common_steps)

pub returns-in-len1-up-clause-value : goal.returns-in-len1-up-clause-value
unfolding after_token
returns-in-len1-up-clause-value c = grind (arith, common_steps)
