use Rattle.sql_text.specs.Whole.{for_lock_of}
use Rattle.std.proofs.Common.{arith}
use Rattle.std.proofs.lemmas.Grind.{common_steps}
use Rattle.sql_text.proofs.selected.for_lock.Goals as goal

pub bounds-tokens-0 : goal.bounds-tokens-0
unfolding for_lock_of
bounds-tokens-0 c = grind (arith, common_steps)

pub bounds-0 : goal.bounds-0
unfolding for_lock_of
bounds-0 c = grind (arith, common_steps)

pub bounds-0-in-Bare-1 : goal.bounds-0-in-Bare-1
unfolding for_lock_of
bounds-0-in-Bare-1 c = grind (arith, common_steps)

pub bounds-0-in-Some-1 : goal.bounds-0-in-Some-1
unfolding for_lock_of
bounds-0-in-Some-1 c = grind (arith, common_steps)

pub slice_bounds-rest-count : goal.slice_bounds-rest-count
unfolding for_lock_of
slice_bounds-rest-count c = grind (arith, common_steps)

pub slice_bounds-rest-start : goal.slice_bounds-rest-start
unfolding for_lock_of
slice_bounds-rest-start c = grind (arith, common_steps)

pub slice_bounds-rest-end : goal.slice_bounds-rest-end
unfolding for_lock_of
slice_bounds-rest-end c = grind (arith, common_steps)

pub returns-in_err-end-in-Bare : goal.returns-in_err-end-in-Bare
unfolding for_lock_of
returns-in_err-end-in-Bare c = grind (arith, common_steps)

pub bounds-0-in-Key-1 : goal.bounds-0-in-Key-1
unfolding for_lock_of
bounds-0-in-Key-1 c = grind (arith, common_steps)

pub slice_bounds-rest-count-in-Update-1 : goal.slice_bounds-rest-count-in-Update-1
unfolding for_lock_of
slice_bounds-rest-count-in-Update-1 c = grind (arith, common_steps)

pub slice_bounds-rest-start-in-Update-1 : goal.slice_bounds-rest-start-in-Update-1
unfolding for_lock_of
slice_bounds-rest-start-in-Update-1 c = grind (arith, common_steps)

pub slice_bounds-rest-end-in-Update-1 : goal.slice_bounds-rest-end-in-Update-1
unfolding for_lock_of
slice_bounds-rest-end-in-Update-1 c = grind (arith, common_steps)

pub returns-in_err-end-in-Key : goal.returns-in_err-end-in-Key
unfolding for_lock_of
returns-in_err-end-in-Key c = grind (arith, common_steps)

pub returns-in_ok-end-in-Bare : goal.returns-in_ok-end-in-Bare
unfolding for_lock_of
returns-in_ok-end-in-Bare c = grind (arith, common_steps)

pub returns-in_ok-end-in-Key : goal.returns-in_ok-end-in-Key
unfolding for_lock_of
returns-in_ok-end-in-Key c = grind (arith, common_steps)

pub returns-in_default : goal.returns-in_default
unfolding for_lock_of
returns-in_default c = grind (arith, common_steps)
