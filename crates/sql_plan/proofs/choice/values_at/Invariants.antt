use Rattle.std.proofs.Common.{◌≡◌, map, drop}
use Rattle.sql_plan.specs.Intervals.{whole}
use Rattle.sql_plan.specs.Plans.{meet_on}
use Rattle.sql_plan.specs.SeenIntervals.{seen_interval}
use Rattle.sql_plan.specs.SeenParts.{seen_part}
use Rattle.sql_plan.proofs.choice.values_at.Given as goal

-- what is left, met with what was met so far, is the meet of all
abbrev pub invariant-loop-part : goal.invariant-loop-part
invariant-loop-part l =
    meet_on l.place (seen_interval l.values) (map seen_part (drop l.part-index l.parts))
    ≡ meet_on l.place whole (map seen_part l.parts)
