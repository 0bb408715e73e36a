use Rattle.std.proofs.Common.{◌≡◌, map, drop}
use Rattle.sql_plan.specs.Plans.{places_of, first_keyed}
use Rattle.sql_plan.specs.SeenParts.{seen_part}
use Rattle.sql_plan.proofs.choice.first_with_key.Given as goal

-- the first one with a key is among the parts that are left
abbrev pub invariant-loop-part : goal.invariant-loop-part
invariant-loop-part l =
    first_keyed l.keys (places_of (map seen_part (drop l.part-index l.parts)))
    ≡ first_keyed l.keys (places_of (map seen_part l.parts))
