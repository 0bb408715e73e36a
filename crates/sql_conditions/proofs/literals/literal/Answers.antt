use Rattle.sql_conditions.specs.Parts.{lit_at}
use Rattle.std.proofs.Common.{arith}
use Rattle.std.proofs.lemmas.Grind.{common_steps}
use Rattle.sql_conditions.proofs.literals.literal.Goals as goal

pub returns-in-Minus : goal.returns-in-Minus
unfolding lit_at
returns-in-Minus c = grind (arith, common_steps) steps 2000000

pub returns-in-Key : goal.returns-in-Key
unfolding lit_at
returns-in-Key c = grind (arith, common_steps) steps 2000000

pub returns-in_ok-copied-in-Text : goal.returns-in_ok-copied-in-Text
unfolding lit_at
returns-in_ok-copied-in-Text c = grind (arith, common_steps) steps 2000000

pub returns-in-Number : goal.returns-in-Number
unfolding lit_at
returns-in-Number c = grind (arith, common_steps) steps 2000000
