use Rattle.std.proofs.Common.{◌≡◌, ◌==◌, map, drop}
use Rattle.std.specs.List.{list_any}
use Rattle.sql_plan.specs.Plans.{places_of}
use Rattle.sql_plan.specs.SeenParts.{seen_part}
use Rattle.sql_plan.proofs.choice.bounds_column.Given as goal

-- none of the parts so far is on the column
abbrev pub invariant-loop-part : goal.invariant-loop-part
invariant-loop-part l =
    list_any (λ bounded. bounded == l.place) (places_of (map seen_part (drop l.part-index l.parts)))
    ≡ list_any (λ bounded. bounded == l.place) (places_of (map seen_part l.parts))
