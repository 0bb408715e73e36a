use Rattle.std.proofs.Common.{◌≡◌, length}
use Rattle.std.specs.Map.{keys_of}
use Rattle.buffer_pool.specs.Order.{last_where}
use Rattle.buffer_pool.specs.Frames.{is_idle_at}
use Rattle.buffer_pool.proofs.order.last_idle.Given as goal

-- the pages that are left decide
abbrev pub invariant-loop-page : goal.invariant-loop-page
invariant-loop-page l = last_where (is_idle_at l.slots) (keys_of l.pages) ≡ last_where (is_idle_at l.slots) (keys_of l.order.entries)

abbrev pub decreases-loop-page : goal.decreases-loop-page
decreases-loop-page l = length l.pages
