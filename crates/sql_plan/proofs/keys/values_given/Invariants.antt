use Rattle.std.proofs.Common.{◌≡◌, take}
use Rattle.sql_plan.specs.Keys.{values_given}
use Rattle.sql_plan.proofs.keys.values_given.Given as goal

-- what the tuples so far give
abbrev pub invariant-loop-tuple : goal.invariant-loop-tuple
invariant-loop-tuple l = l.given.items ≡ values_given l.at (take l.tuple-index l.tuples)
