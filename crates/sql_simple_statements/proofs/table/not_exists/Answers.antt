use Rattle.std.proofs.Common.{arith}
use Rattle.std.proofs.lemmas.Grind.{common_steps}
use Rattle.sql_simple_statements.proofs.table.not_exists.Goals as goal

pub returns-in-Key : goal.returns-in-Key
returns-in-Key c = grind (arith, common_steps) steps 2000000
