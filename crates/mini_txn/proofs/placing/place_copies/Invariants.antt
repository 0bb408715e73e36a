use Rattle.std.proofs.Common.{◌≤◌, take, length}
use Rattle.mini_txn.specs.View.{AreHeld, Places}
use Rattle.mini_txn.proofs.placing.place_copies.Given as goal

abbrev pub invariant-loop-left : goal.invariant-loop-left
invariant-loop-left l = (l.left ≤ length l.dealt) × Places l.lsn l.fn.pool l.dealt l.pool (take l.left l.dealt) × AreHeld l.pool (take l.left l.dealt)

abbrev pub decreases-loop-left : goal.decreases-loop-left
decreases-loop-left l = l.left
