use Rattle.std.proofs.Common.{arith}
use Rattle.std.proofs.lemmas.Grind.{common_steps}
use Rattle.sql_values.proofs.declaration.declared_primaries.Goals as goal

pub loop-definition-preserved : goal.loop-definition-preserved
loop-definition-preserved c = grind (arith, common_steps) steps 2000000

pub returns : goal.returns
returns c = grind (arith, common_steps) steps 2000000

pub loop-definition-init : goal.loop-definition-init
loop-definition-init c = grind (arith, common_steps)

pub offset_bounds-definition-items-definition-index : goal.offset_bounds-definition-items-definition-index
offset_bounds-definition-items-definition-index c = grind (arith, common_steps)

pub returns-in_err-push_primary : goal.returns-in_err-push_primary
returns-in_err-push_primary c = grind (arith, common_steps)
