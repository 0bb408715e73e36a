use Rattle.law_flat_tree.proofs.Trees as trees
use Rattle.law_flat_tree.proofs.leaf_edits.a_value_is_replaced_in_its_leaf.Goals as goal

pub returns-clause-tree : goal.returns-clause-tree
returns-clause-tree c =
    λ old new root lows key value leaf i tree holds found records changes.
    (trees.replaces old new root lows key value leaf i tree holds found records changes).0

pub returns-clause-replaces : goal.returns-clause-replaces
returns-clause-replaces c =
    λ old new root lows key value leaf i tree holds found records changes.
    (trees.replaces old new root lows key value leaf i tree holds found records changes).1
