use Rattle.stored_pages.proofs.Newest.{IsNewestTo}
use Rattle.stored_pages.proofs.copies.newest_slot.Given as goal

abbrev pub invariant-loop-slot : goal.invariant-loop-slot
invariant-loop-slot l = IsNewestTo l.double l.number l.slot l.newest
