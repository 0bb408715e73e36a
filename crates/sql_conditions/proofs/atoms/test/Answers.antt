use Rattle.sql_conditions.specs.Atoms.{test_at}
use Rattle.std.proofs.Common.{arith}
use Rattle.std.proofs.lemmas.Grind.{common_steps}
use Rattle.sql_conditions.proofs.atoms.test.Goals as goal

pub returns-in_err-right-in-Compare : goal.returns-in_err-right-in-Compare
unfolding test_at
returns-in_err-right-in-Compare c = grind (arith, common_steps) steps 2000000

pub returns-in-Compare : goal.returns-in-Compare
unfolding test_at
returns-in-Compare c = grind (arith, common_steps) steps 2000000
