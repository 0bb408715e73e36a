use Rattle.std.proofs.Common.{◌≡◌, drop}
use Rattle.sql_plan.specs.Intervals.{is_less, first_of_all, least}
use Rattle.sql_plan.specs.SeenIntervals.{seen_if}
use Rattle.sql_plan.proofs.interval.least_of.Given as goal

-- the least so far, taken on over the literals that are left, is the least of all
abbrev pub invariant-loop-literal : goal.invariant-loop-literal
invariant-loop-literal l = first_of_all is_less (seen_if l.found) (drop l.literal-index l.literals) ≡ least l.literals
