use Rattle.lock_lists.proofs.Seen.{IsChained}
use Rattle.lock_lists.proofs.granted.chain.Given as goal

abbrev pub invariant-loop-place : goal.invariant-loop-place
invariant-loop-place l = IsChained l.places l.place-index l.spots l.txns l.initial.spots l.initial.txns
