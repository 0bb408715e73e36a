use Rattle.std.specs.Prelude.{◌≡◌, ◌≤◌, ◌+◌, ◌*◌, vec_capacity, length}
use Rattle.deadlock.specs.Steps.{WaitsFor}
use Rattle.deadlock.proofs.DepthFirst.{IsSearching, path_to}
use Rattle.deadlock.proofs.Order.{IsOrdered}
use Rattle.deadlock.proofs.search.search.Given as goal

abbrev pub invariant-loop-lock : goal.invariant-loop-lock
invariant-loop-lock l = record {
  searching : IsSearching (WaitsFor l.locks.granted l.locks.waiting) l.start l.unvisited.items l.path.items l.at;
  ordered : IsOrdered l.start l.locks.granted l.locks.waiting (path_to l.path.items l.at);
  short : length l.path.items + length l.unvisited.items ≤ length l.initial.unvisited.items;
  path_room : vec_capacity l.path ≡ vec_capacity l.initial.path;
  other_room : vec_capacity l.unvisited ≡ vec_capacity l.initial.unvisited;
}

abbrev pub decreases-loop-lock : goal.decreases-loop-lock
decreases-loop-lock l = 2 * length l.unvisited.items + length l.path.items
