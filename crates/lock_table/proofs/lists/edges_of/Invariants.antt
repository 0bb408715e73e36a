use Rattle.std.proofs.Common.{◌≡◌, take, drop}
use Rattle.lock_table.specs.Queue as queue
use Rattle.lock_table.proofs.lists.edges_of.Given as goal

-- no request before the place is the transaction's
abbrev pub invariant-loop-i : goal.invariant-loop-i
invariant-loop-i l = queue.edges_behind l.txn l.granted (take l.i l.waiting) (drop l.i l.waiting) ≡ queue.edges_of l.txn l.granted l.waiting
