use Rattle.std.proofs.Common.{◌≡◌, ◌++◌, drop, vec_capacity}
use Rattle.lock_table.specs.Records as records
use Rattle.lock_table.proofs.lists.leave_gaps.Given as goal

-- what the requests that are left leave gives what all leave
abbrev pub invariant-loop-asked : goal.invariant-loop-asked
invariant-loop-asked l = record {
  same : l.granted.items ++ records.uncovered l.granted.items (records.left_by l.by l.gone l.next (drop l.asked-index l.asked-items))
      ≡ l.initial.granted.items ++ records.uncovered l.initial.granted.items (records.left_by l.by l.gone l.next l.asked-items);
  stays : vec_capacity l.granted ≡ vec_capacity l.initial.granted;
}
