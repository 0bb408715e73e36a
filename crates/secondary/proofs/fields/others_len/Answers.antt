use Rattle.std.proofs.Common.{arith}
use Rattle.std.proofs.lemmas.Grind.{common_steps}
use Rattle.secondary.proofs.fields.others_len.Goals as goal

pub returns-clause-len : goal.returns-clause-len
returns-clause-len c = grind (arith, common_steps) steps 2000000

pub loop-place-init : goal.loop-place-init
loop-place-init c = grind (arith, common_steps)

pub offset_bounds-columns-place : goal.offset_bounds-columns-place
offset_bounds-columns-place c = grind (arith, common_steps)

pub bounds-columns-place : goal.bounds-columns-place
bounds-columns-place c = grind (arith, common_steps)

pub overflow_add-len : goal.overflow_add-len
overflow_add-len c = grind (arith, common_steps)

pub overflow_add-len-then-place-from : goal.overflow_add-len-then-place-from
overflow_add-len-then-place-from c = grind (arith, common_steps)

pub loop-place-preserved : goal.loop-place-preserved
loop-place-preserved c = grind (arith, common_steps)

pub returns-clause-small : goal.returns-clause-small
returns-clause-small c = grind (arith, common_steps)
