use Rattle.std.proofs.Common.{length}
use Rattle.buffer_pool.specs.Frames.{PoolView}
use Rattle.mini_txn.specs.Dealt.{pages_of}
use Rattle.paged_txn.specs.Ending.{LetsGo}
use Rattle.paged_txn.proofs.ending.let_all_go.Given as goal

-- whoever lets the others go has let all go
abbrev pub invariant-loop-pool : goal.invariant-loop-pool
invariant-loop-pool l = (final : PoolView) → LetsGo (pages_of l.dealt) l.pool final → LetsGo (pages_of l.fn.dealt) l.fn.pool final

abbrev pub decreases-loop-pool : goal.decreases-loop-pool
decreases-loop-pool l = length l.dealt
