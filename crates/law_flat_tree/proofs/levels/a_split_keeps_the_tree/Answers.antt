use Rattle.law_flat_tree.proofs.Splits.{split_levels}
use Rattle.law_flat_tree.proofs.Grown.{split_all_inner, split_leaf_level, inner_level}
use Rattle.law_flat_tree.proofs.levels.a_split_keeps_the_tree.Goals as goal

pub returns-clause-levels : goal.returns-clause-levels
returns-clause-levels c = split_levels

pub returns-clause-inner : goal.returns-clause-inner
returns-clause-inner c = split_all_inner

pub returns-clause-pairs : goal.returns-clause-pairs
returns-clause-pairs c = split_leaf_level

pub returns-clause-pairs_below : goal.returns-clause-pairs_below
returns-clause-pairs_below c = inner_level
