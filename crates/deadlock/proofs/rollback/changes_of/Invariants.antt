use Rattle.std.proofs.Common.{◌≡◌, drop}
use Rattle.deadlock.specs.Victim.{changes_of}
use Rattle.deadlock.proofs.rollback.changes_of.Given as goal

-- the size stands among those not yet seen
abbrev pub invariant-loop-size : goal.invariant-loop-size
invariant-loop-size l = changes_of l.txn l.size-items ≡ changes_of l.txn (drop l.size-index l.size-items)
