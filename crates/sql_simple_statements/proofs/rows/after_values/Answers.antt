use Rattle.sql_simple_statements.specs.Statements.{after_values}
use Rattle.std.proofs.Common.{arith}
use Rattle.std.proofs.lemmas.Grind.{common_steps}
use Rattle.sql_simple_statements.proofs.rows.after_values.Goals as goal

pub returns-in-Key : goal.returns-in-Key
unfolding after_values
returns-in-Key c = grind (arith, common_steps) steps 2000000

pub returns-in-Bare : goal.returns-in-Bare
unfolding after_values
returns-in-Bare c = grind (arith, common_steps) steps 2000000
