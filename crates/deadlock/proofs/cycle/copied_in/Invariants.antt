use Rattle.std.specs.Prelude.{◌≡◌, ◌≤◌, ◌+◌, length, take, vec_capacity}
use Rattle.lock_table.specs.Empty.{HoldKeys}
use Rattle.deadlock.proofs.cycle.copied_in.Given as goal

abbrev pub invariant-loop-edge : goal.invariant-loop-edge
invariant-loop-edge l = record {
  items : l.edges.items ≡ take l.edge-index l.edge-items;
  room : length l.edge-items ≤ vec_capacity l.edges;
  keys : length l.edge-items ≤ length l.keys.items + l.edge-index;
  hold : HoldKeys l.keys.items;
}
