use Rattle.std.proofs.Common.{arith}
use Rattle.std.proofs.lemmas.Grind.{elements}
use Rattle.sql_values.proofs.storing.put.Goals as goal

pub returns-in-None : goal.returns-in-None
returns-in-None c = grind (arith, elements) steps 2000000

pub returns-in-Some-misfit_of : goal.returns-in-Some-misfit_of
returns-in-Some-misfit_of c = grind (arith, elements) steps 2000000

pub returns-in_default : goal.returns-in_default
returns-in_default c = grind (arith, elements) steps 2000000
