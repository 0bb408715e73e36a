use Rattle.sql_conditions.proofs.InParts.{in_parts}
use Rattle.std.proofs.Common.{arith}
use Rattle.std.proofs.lemmas.Grind.{common_steps}
use Rattle.sql_conditions.proofs.atoms.null_test.Goals as goal

pub returns-in_err-negated : goal.returns-in_err-negated
returns-in_err-negated c = grind (arith, common_steps, in_parts)

pub same-column : goal.same-column
same-column c = grind (arith, common_steps, in_parts)
