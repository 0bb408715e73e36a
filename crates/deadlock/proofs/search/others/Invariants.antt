use Rattle.std.specs.Prelude.{◌≡◌, ◌≤◌, map, take, length, vec_capacity}
use Rattle.inno_types.specs.declared.lock.Lock.{Lock}
use Rattle.deadlock.specs.Steps.{without}
use Rattle.deadlock.proofs.search.others.Given as goal

abbrev pub invariant-loop-asked : goal.invariant-loop-asked
invariant-loop-asked l = record {
  items : l.unvisited.items ≡ without l.txn (map (λ (asked : Lock). asked.txn) (take l.asked-index l.requests));
  short : length l.unvisited.items ≤ l.asked-index;
  room : vec_capacity l.unvisited ≡ vec_capacity l.initial.unvisited;
}
