use Rattle.std.proofs.Common.{arith}
use Rattle.std.proofs.lemmas.Grind.{common_steps}
use Rattle.sql_values.proofs.storing.make_row.Goals as goal

pub loop-place-preserved : goal.loop-place-preserved
loop-place-preserved c = grind (arith, common_steps) steps 2000000

pub returns : goal.returns
returns c = grind (arith, common_steps) steps 2000000

pub returns-in-Err : goal.returns-in-Err
returns-in-Err c = grind (arith, common_steps) steps 2000000

pub loop-place-init : goal.loop-place-init
loop-place-init c = grind (arith, common_steps)

pub offset_bounds-column-items-place : goal.offset_bounds-column-items-place
offset_bounds-column-items-place c = grind (arith, common_steps)

pub bounds-column-items-place : goal.bounds-column-items-place
bounds-column-items-place c = grind (arith, common_steps)

pub returns-in_err-value : goal.returns-in_err-value
returns-in_err-value c = grind (arith, common_steps)

pub returns-in_err-push-in-Ok : goal.returns-in_err-push-in-Ok
returns-in_err-push-in-Ok c = grind (arith, common_steps)
