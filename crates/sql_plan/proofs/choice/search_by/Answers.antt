use Rattle.std.proofs.Common.{arith}
use Rattle.std.proofs.lemmas.Grind.{elements}
use Rattle.sql_plan.proofs.choice.search_by.Goals as goal

pub returns-in-Some-Some-clause-ok : goal.returns-in-Some-Some-clause-ok
returns-in-Some-Some-clause-ok c = grind (arith, elements) steps 2000000

pub returns-in_default-clause-ok : goal.returns-in_default-clause-ok
returns-in_default-clause-ok c = grind (arith, elements) steps 2000000
