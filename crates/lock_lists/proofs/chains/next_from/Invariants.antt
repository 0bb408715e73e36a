use Rattle.lock_lists.proofs.Chain.{IsPast}
use Rattle.lock_lists.proofs.chains.next_from.Given as goal

abbrev pub invariant-loop-at : goal.invariant-loop-at
invariant-loop-at l = IsPast l.bucket l.marks l.from l.next l.at

abbrev pub decreases-loop-at : goal.decreases-loop-at
decreases-loop-at l = l.at
