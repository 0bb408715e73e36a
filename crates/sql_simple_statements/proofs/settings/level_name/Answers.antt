use Rattle.sql_simple_statements.specs.Statements.{level_name_of}
use Rattle.std.proofs.Common.{arith}
use Rattle.std.proofs.lemmas.Grind.{common_steps}
use Rattle.sql_simple_statements.proofs.settings.level_name.Goals as goal

pub returns-in-Bare : goal.returns-in-Bare
unfolding level_name_of
returns-in-Bare c = grind (arith, common_steps) steps 2000000

pub returns-in-Bare-2 : goal.returns-in-Bare-2
unfolding level_name_of
returns-in-Bare-2 c = grind (arith, common_steps) steps 2000000
