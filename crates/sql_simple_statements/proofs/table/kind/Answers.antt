use Rattle.sql_simple_statements.specs.Statements.{kind_at}
use Rattle.std.proofs.Common.{arith}
use Rattle.std.proofs.lemmas.Grind.{common_steps}
use Rattle.sql_simple_statements.proofs.table.kind.Goals as goal

pub returns-in-Key : goal.returns-in-Key
unfolding kind_at
returns-in-Key c = grind (arith, common_steps) steps 2000000

pub returns-in-Key-2 : goal.returns-in-Key-2
unfolding kind_at
returns-in-Key-2 c = grind (arith, common_steps) steps 2000000
