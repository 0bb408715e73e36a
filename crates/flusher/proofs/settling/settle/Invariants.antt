use Rattle.flusher.specs.Cleaning.{Cleans}
use Rattle.flusher.proofs.settling.settle.Given as goal

abbrev pub invariant-loop-slot : goal.invariant-loop-slot
invariant-loop-slot l = Cleans l.batch l.slot l.fn.pool l.pool
