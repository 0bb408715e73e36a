use Rattle.std.proofs.Common.{◌≡◌}
use Rattle.tests_trees.proofs.both.fill_root.Given as goal

abbrev pub invariant-loop-number : goal.invariant-loop-number
invariant-loop-number l = (l.tree.pages.key_len ≡ 60) × (l.tree.pages.value_len ≡ 140)
