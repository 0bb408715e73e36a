use Rattle.std.proofs.Common.{vec_capacity}
use Rattle.lock_table.proofs.Walk.{IsCopied}
use Rattle.lock_table.proofs.lists.copy_gaps.Given as goal

abbrev pub invariant-loop-i : goal.invariant-loop-i
invariant-loop-i l = IsCopied l.txn l.new l.next l.initial.granted.items l.granted.items l.i (vec_capacity l.initial.granted) (vec_capacity l.granted)
