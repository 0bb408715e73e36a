use Rattle.std.proofs.Common.{◌≡◌, ◌++◌, map, drop}
use Rattle.std.specs.Prelude.{filter}
use Rattle.lock_rules.specs.Conflicts.{conflicts}
use Rattle.lock_table.specs.Queue as queue
use Rattle.lock_table.proofs.lists.push_edges.Given as goal

-- what the locks that are left add gives what all add
abbrev pub invariant-loop-lock : goal.invariant-loop-lock
invariant-loop-lock l =
    l.edges.items ++ map (queue.edge_to l.asked.txn) (filter (λ lock. conflicts lock l.asked) (drop l.lock-index l.locks))
    ≡ l.initial.edges.items ++ map (queue.edge_to l.asked.txn) (filter (λ lock. conflicts lock l.asked) l.locks)
