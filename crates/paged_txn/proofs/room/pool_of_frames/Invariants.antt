use Rattle.std.proofs.Common.{◌-◌, ◌≤◌}
use Rattle.paged_txn.specs.View.{HasFrames}
use Rattle.paged_txn.proofs.room.pool_of_frames.Given as goal

abbrev pub invariant-loop-page : goal.invariant-loop-page
invariant-loop-page l = HasFrames l.pages l.page l.pool × (l.page ≤ l.frames)

abbrev pub decreases-loop-page : goal.decreases-loop-page
decreases-loop-page l = l.frames - l.page
