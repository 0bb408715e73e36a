use Rattle.std.proofs.Common.{arith}
use Rattle.std.proofs.lemmas.Grind.{elements}
use Rattle.run_outcome.proofs.total.place_of_balance.Goals as goal

pub returns-in-BigInt : goal.returns-in-BigInt
returns-in-BigInt c = grind (arith, elements) steps 2000000

pub returns-in-VarBinary : goal.returns-in-VarBinary
returns-in-VarBinary c = grind (arith, elements) steps 2000000
