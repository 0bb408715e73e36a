use Rattle.std.proofs.Common.{length}
use Rattle.mini_txn.specs.View.{KeepsPages}
use Rattle.mini_txn.proofs.placing.release_all.Given as goal

abbrev pub invariant-loop-pool : goal.invariant-loop-pool
invariant-loop-pool l = KeepsPages l.fn.pool l.pool

abbrev pub decreases-loop-pool : goal.decreases-loop-pool
decreases-loop-pool l = length l.dealt
