use Rattle.std.proofs.Common.{arith}
use Rattle.std.proofs.lemmas.Grind.{common_steps}
use Rattle.sql_conditions.proofs.atoms.null_behind.Goals as goal

pub bounds-tokens-0 : goal.bounds-tokens-0
bounds-tokens-0 c = grind (arith, common_steps)

pub bounds-0 : goal.bounds-0
bounds-0 c = grind (arith, common_steps)

pub bounds-0-in-Key-1 : goal.bounds-0-in-Key-1
bounds-0-in-Key-1 c = grind (arith, common_steps)

pub slice_bounds-rest-count : goal.slice_bounds-rest-count
slice_bounds-rest-count c = grind (arith, common_steps)

pub slice_bounds-rest-start : goal.slice_bounds-rest-start
slice_bounds-rest-start c = grind (arith, common_steps)

pub slice_bounds-rest-end : goal.slice_bounds-rest-end
slice_bounds-rest-end c = grind (arith, common_steps)

pub returns-in-Key : goal.returns-in-Key
returns-in-Key c = grind (arith, common_steps)

pub returns-in_default : goal.returns-in_default
returns-in_default c = grind (arith, common_steps)
