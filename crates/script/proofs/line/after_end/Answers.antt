use Rattle.std.proofs.Common.{arith}
use Rattle.std.proofs.lemmas.Grind.{common_steps}
use Rattle.script.specs.Lines.{after_end}
use Rattle.script.proofs.line.after_end.Goals as goal

pub returns-in-13-clause-value : goal.returns-in-13-clause-value
unfolding after_end
returns-in-13-clause-value c = grind (arith, common_steps) steps 2000000

pub returns-in_default-rest-clause-value : goal.returns-in_default-rest-clause-value
unfolding after_end
returns-in_default-rest-clause-value c = grind (arith, common_steps) steps 2000000
