use Rattle.lock_lists.specs.Looking.{passes}
use Rattle.lock_lists.proofs.Seen.{IsSeen}
use Rattle.lock_lists.proofs.granted.GrantedLocks.next.Given as goal

abbrev pub invariant-loop-end : goal.invariant-loop-end
invariant-loop-end l = IsSeen (passes l.sought) l.self-inside.places.items l.from l.end l.next

abbrev pub decreases-loop-end : goal.decreases-loop-end
decreases-loop-end l = l.end
