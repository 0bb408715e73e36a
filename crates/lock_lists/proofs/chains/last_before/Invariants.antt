use Rattle.lock_lists.proofs.Chain.{IsBack}
use Rattle.lock_lists.proofs.chains.last_before.Given as goal

abbrev pub invariant-loop-at : goal.invariant-loop-at
invariant-loop-at l = IsBack l.bucket l.marks l.limit l.at

abbrev pub decreases-loop-at : goal.decreases-loop-at
decreases-loop-at l = l.at
