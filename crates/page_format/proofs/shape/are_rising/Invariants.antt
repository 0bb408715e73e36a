use Rattle.std.proofs.Common.{◌+◌, ◌-◌}
use Rattle.page_format.proofs.Rising.{Tells}
use Rattle.page_format.proofs.shape.are_rising.Given as goal

abbrev pub invariant-loop : goal.invariant-loop
invariant-loop l = Tells l.width l.count l.records (l.count + 1 - l.counter) l.rest
