use Rattle.std.proofs.Common.{◌-◌, length}
use Rattle.flusher.specs.Gathering.{Gathers}
use Rattle.flusher.proofs.gathering.gather.Given as goal

abbrev pub invariant-loop-page : goal.invariant-loop-page
invariant-loop-page l = Gathers l.page l.pool l.batch

abbrev pub decreases-loop-page : goal.decreases-loop-page
decreases-loop-page l = length l.pool.slots - l.page
