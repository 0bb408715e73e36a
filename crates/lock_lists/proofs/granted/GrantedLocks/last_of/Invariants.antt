use Rattle.lock_lists.specs.Places.{is_of}
use Rattle.lock_lists.proofs.Seen.{IsEmptied}
use Rattle.lock_lists.proofs.granted.GrantedLocks.last_of.Given as goal

abbrev pub invariant-loop-end : goal.invariant-loop-end
invariant-loop-end l = IsEmptied (is_of l.txn) l.self-inside.places.items l.limit l.end

abbrev pub decreases-loop-end : goal.decreases-loop-end
decreases-loop-end l = l.end
