use Rattle.sql_conditions.proofs.InParts.{in_parts}
use Rattle.std.proofs.Common.{arith}
use Rattle.std.proofs.lemmas.Grind.{common_steps}
use Rattle.std.proofs.Common.{refl}
use Rattle.sql_conditions.proofs.InParts.{tuple_in_parts}
use Rattle.sql_conditions.proofs.lists.tuple.Goals as goal

pub returns : goal.returns
returns c = rw (tuple_in_parts c.args.tokens.now, c.in_ok-rest.ensures, c.in_ok-literals.ensures, c.in_ok-rest-2.ensures) refl

pub returns-in_err-rest : goal.returns-in_err-rest
returns-in_err-rest c = grind (arith, common_steps, in_parts)

pub returns-in_err-literals : goal.returns-in_err-literals
returns-in_err-literals c = grind (arith, common_steps, in_parts)

pub returns-in_err-rest-2 : goal.returns-in_err-rest-2
returns-in_err-rest-2 c = grind (arith, common_steps, in_parts)
