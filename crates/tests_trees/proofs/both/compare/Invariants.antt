use Rattle.std.proofs.Common.{◌≤◌, vec_capacity}
use Rattle.tests_trees.proofs.both.compare.Given as goal

abbrev pub invariant-loop-number : goal.invariant-loop-number
invariant-loop-number l = (1024 ≤ vec_capacity l.of_list) × (1024 ≤ vec_capacity l.of_tree)
