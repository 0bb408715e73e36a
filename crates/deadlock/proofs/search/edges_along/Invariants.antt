use Rattle.std.specs.Prelude.{◌≤◌, ◌+◌, length, vec_capacity}
use Rattle.lock_table.specs.Empty.{HoldKeys}
use Rattle.deadlock.specs.Cycles.{AreShort}
use Rattle.deadlock.proofs.Along.{IsAlong}
use Rattle.deadlock.proofs.search.edges_along.Given as goal

abbrev pub invariant-loop-i : goal.invariant-loop-i
invariant-loop-i l = record {
  along : IsAlong l.locks.granted l.locks.waiting l.path l.edges.items l.i;
  room : length l.path ≤ vec_capacity l.edges;
  keys : length l.path ≤ length l.keys.items + l.i;
  hold : HoldKeys l.keys.items;
  short : AreShort l.edges.items;
}
