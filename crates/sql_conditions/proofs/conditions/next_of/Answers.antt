use Rattle.sql_conditions.specs.Conditions.{follow_of}
use Rattle.std.proofs.Common.{arith}
use Rattle.std.proofs.lemmas.Grind.{common_steps}
use Rattle.sql_conditions.proofs.conditions.next_of.Goals as goal

pub returns-in-Key : goal.returns-in-Key
unfolding follow_of
returns-in-Key c = grind (arith, common_steps) steps 2000000

pub returns-in-Key-2 : goal.returns-in-Key-2
unfolding follow_of
returns-in-Key-2 c = grind (arith, common_steps) steps 2000000

pub returns-in-Close : goal.returns-in-Close
unfolding follow_of
returns-in-Close c = grind (arith, common_steps) steps 2000000
