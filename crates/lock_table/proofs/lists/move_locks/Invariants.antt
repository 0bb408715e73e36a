use Rattle.std.proofs.Common.{vec_capacity, length, ◌-◌}
use Rattle.lock_table.proofs.Walk.{IsMoved}
use Rattle.lock_table.proofs.lists.move_locks.Given as goal

abbrev pub invariant-loop-i : goal.invariant-loop-i
invariant-loop-i l = IsMoved l.by l.gone l.next l.initial.granted.items l.granted.items l.i (vec_capacity l.initial.granted) (vec_capacity l.granted)

abbrev pub decreases-loop-i : goal.decreases-loop-i
decreases-loop-i l = length l.granted.items - l.i
