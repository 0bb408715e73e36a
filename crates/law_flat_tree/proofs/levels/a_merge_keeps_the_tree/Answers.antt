use Rattle.law_flat_tree.proofs.Splits.{merge_levels}
use Rattle.law_flat_tree.proofs.Grown.{merge_all_inner, merge_leaf_level}
use Rattle.law_flat_tree.proofs.levels.a_merge_keeps_the_tree.Goals as goal

pub returns-clause-levels : goal.returns-clause-levels
returns-clause-levels c = merge_levels

pub returns-clause-inner : goal.returns-clause-inner
returns-clause-inner c = merge_all_inner

pub returns-clause-pairs : goal.returns-clause-pairs
returns-clause-pairs c = merge_leaf_level
