use Rattle.std.proofs.Common.{◌≡◌, take}
use Rattle.inno_types.proofs.listed.Listed+Edge.copied.Given as goal

-- the edges before the place are copied
abbrev pub invariant-loop-edge : goal.invariant-loop-edge
invariant-loop-edge l = l.edges.items ≡ take l.edge-index l.edge-items
