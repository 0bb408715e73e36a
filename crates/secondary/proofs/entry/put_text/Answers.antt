use Rattle.std.proofs.Common.{arith}
use Rattle.std.proofs.lemmas.Grind.{common_steps}
use Rattle.secondary.proofs.entry.put_text.Goals as goal

pub returns-in_ok-push-in-Some-clause-ok : goal.returns-in_ok-push-in-Some-clause-ok
returns-in_ok-push-in-Some-clause-ok c = grind (arith, common_steps) steps 2000000
