use Rattle.std.proofs.Common.{ℕ, ◌<◌, ◌≤◌}
use Rattle.stored_pages.specs.Words.{lsn_of}
use Rattle.doublewrite.specs.Batches.{page_at}
use Rattle.flusher.proofs.gathering.newest_lsn.Given as goal

abbrev pub invariant-loop-slot : goal.invariant-loop-slot
invariant-loop-slot l = (k : ℕ) → k < l.slot → lsn_of (page_at l.batch k) ≤ l.newest
