use Rattle.sql_conditions.specs.Atoms.{oper_at}
use Rattle.std.proofs.Common.{arith}
use Rattle.std.proofs.lemmas.Grind.{common_steps}
use Rattle.sql_conditions.proofs.atoms.operand.Goals as goal

pub returns-in_ok-copied-in-Bare : goal.returns-in_ok-copied-in-Bare
unfolding oper_at
returns-in_ok-copied-in-Bare c = grind (arith, common_steps) steps 2000000

pub returns-in_ok-copied-in-Quoted : goal.returns-in_ok-copied-in-Quoted
unfolding oper_at
returns-in_ok-copied-in-Quoted c = grind (arith, common_steps) steps 2000000
