use Rattle.sql_text.specs.Whole.{first_of}
use Rattle.std.proofs.Common.{arith}
use Rattle.std.proofs.lemmas.Grind.{common_steps}
use Rattle.sql_text.proofs.statement.first_of.Goals as goal

pub returns-in-Key : goal.returns-in-Key
unfolding first_of
returns-in-Key c = grind (arith, common_steps) steps 2000000

pub returns-in-Bare : goal.returns-in-Bare
unfolding first_of
returns-in-Bare c = grind (arith, common_steps) steps 2000000
