use Rattle.std.proofs.Common.{◌≡◌, drop}
use Rattle.sql_plan.specs.Intervals.{is_greater, first_of_all, greatest}
use Rattle.sql_plan.specs.SeenIntervals.{seen_if}
use Rattle.sql_plan.proofs.interval.greatest_of.Given as goal

-- the greatest so far, taken on over the literals that are left, is the greatest of all
abbrev pub invariant-loop-literal : goal.invariant-loop-literal
invariant-loop-literal l = first_of_all is_greater (seen_if l.found) (drop l.literal-index l.literals) ≡ greatest l.literals
