use Rattle.std.proofs.Common.{arith}
use Rattle.std.proofs.lemmas.Grind.{elements}
use Rattle.run_outcome.proofs.total.total_of.Goals as goal

pub returns-in-Some-place_of_balance : goal.returns-in-Some-place_of_balance
returns-in-Some-place_of_balance c = grind (arith, elements) steps 2000000

pub returns-in-None-place_of_balance : goal.returns-in-None-place_of_balance
returns-in-None-place_of_balance c = grind (arith, elements) steps 2000000
