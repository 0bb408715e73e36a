use Rattle.std.proofs.Common.{◌≡◌, ◌++◌, map}
use Rattle.sql_plan.specs.Parts.{ranges_of}
use Rattle.sql_plan.specs.SeenParts.{seen_part}
use Rattle.sql_plan.proofs.Waiting.{ranges_waiting, weight_of_all}
use Rattle.sql_plan.proofs.part.parts_of.Given as goal

-- what was found, and what the waiting conditions say, is what the whole condition says
abbrev pub invariant-loop-next : goal.invariant-loop-next
invariant-loop-next l = map seen_part l.parts.items ++ ranges_waiting l.columns l.waiting.items ≡ ranges_of l.columns l.filter

abbrev pub decreases-loop-next : goal.decreases-loop-next
decreases-loop-next l = weight_of_all l.waiting.items
