use Rattle.std.proofs.Common.{arith}
use Rattle.std.proofs.lemmas.Grind.{common_steps}
use Rattle.sql_simple_statements.proofs.table.var_binary.Goals as goal

pub returns-in-Open : goal.returns-in-Open
returns-in-Open c = grind (arith, common_steps) steps 2000000
