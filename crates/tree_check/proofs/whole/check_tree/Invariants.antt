use Rattle.std.proofs.Common.{◌≤◌}
use Rattle.tree_check.proofs.Descended.{Descended}
use Rattle.tree_check.proofs.whole.check_tree.Given as goal

abbrev pub invariant-loop-down : goal.invariant-loop-down
invariant-loop-down l = record {
  within : l.down ≤ l.height;
  came : Descended l.tree l.pages l.height l.down l.top;
}
