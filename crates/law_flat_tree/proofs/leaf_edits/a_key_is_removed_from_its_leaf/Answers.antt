use Rattle.law_flat_tree.proofs.Trees as trees
use Rattle.law_flat_tree.proofs.leaf_edits.a_key_is_removed_from_its_leaf.Goals as goal

pub returns-clause-tree : goal.returns-clause-tree
returns-clause-tree c =
    λ old new root lows key leaf i tree holds found records changes. (trees.removes old new root lows key leaf i tree holds found records changes).0

pub returns-clause-removes : goal.returns-clause-removes
returns-clause-removes c =
    λ old new root lows key leaf i tree holds found records changes. (trees.removes old new root lows key leaf i tree holds found records changes).1
