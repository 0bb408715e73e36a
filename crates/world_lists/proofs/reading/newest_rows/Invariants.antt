use Rattle.row_versions.specs.Chains.{Chains}
use Rattle.law_held_steps.specs.Begun.{TellsTable, IsReadingNewest, left_in}
use Rattle.world_lists.proofs.reading.newest_rows.Given as goal

-- as far as the search has come, whatever rows the world told when it began
abbrev pub invariant-reading : goal.invariant-reading
invariant-reading g l =
    (chains : Chains) → TellsTable chains l.table l.fn.plan l.schema (g.W.World.state l.fn.world)
    → IsReadingNewest chains l.session l.table l.fn.plan l.schema (g.W.World.state l.fn.world) (g.W.World.state l.world) l.search

-- the keys that it has not come past, and what is left of its visit of one
abbrev pub decreases-reading : goal.decreases-reading
decreases-reading g l = left_in l.session (g.W.World.state l.world) l.search
