use Rattle.std.proofs.Common.{◌≡◌, ℕ, ◌<◌, ◌-◌, false, length}
use Rattle.buffer_pool.specs.Frames.{is_dirty}
use Rattle.page_checkpoint.proofs.checking.first_dirty.Given as goal

abbrev pub invariant-loop-page : goal.invariant-loop-page
invariant-loop-page l = (page : ℕ) → page < l.page → is_dirty l.pool page ≡ false

abbrev pub decreases-loop-page : goal.decreases-loop-page
decreases-loop-page l = length l.pool.slots - l.page
