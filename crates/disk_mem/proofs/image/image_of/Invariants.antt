use Rattle.disk_mem.proofs.Left.{Passed}
use Rattle.disk_mem.proofs.image.image_of.Given as goal

abbrev pub invariant-loop-call : goal.invariant-loop-call
invariant-loop-call l = Passed l.pick l.area l.start l.calls l.call-index l.seen.items l.image.items
