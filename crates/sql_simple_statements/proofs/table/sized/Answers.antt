use Rattle.std.proofs.Common.{arith}
use Rattle.std.proofs.lemmas.Grind.{common_steps}
use Rattle.sql_simple_statements.proofs.table.sized.Goals as goal

pub returns-in_ok-rest-in-Number : goal.returns-in_ok-rest-in-Number
returns-in_ok-rest-in-Number c = grind (arith, common_steps) steps 2000000
