use Rattle.std.proofs.Common.{◌-◌, length, vec_capacity}
use Rattle.lock_table.proofs.lists.serve.Given as goal
use Rattle.lock_table.proofs.Walk.{IsServed}

abbrev pub invariant-loop-earlier : goal.invariant-loop-earlier
invariant-loop-earlier l = IsServed l.initial.granted.items l.initial.waiting.items l.granted.items l.waiting.items l.earlier (vec_capacity l.initial.granted) (vec_capacity l.granted)

abbrev pub decreases-loop-earlier : goal.decreases-loop-earlier
decreases-loop-earlier l = length l.waiting.items - l.earlier
