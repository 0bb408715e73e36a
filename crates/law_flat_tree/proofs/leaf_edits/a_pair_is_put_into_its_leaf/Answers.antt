use Rattle.law_flat_tree.proofs.Trees as trees
use Rattle.law_flat_tree.proofs.leaf_edits.a_pair_is_put_into_its_leaf.Goals as goal

pub returns-clause-tree : goal.returns-clause-tree
returns-clause-tree c =
    λ old new root lows key value leaf i tree holds found records changes. (trees.inserts old new root lows key value leaf i tree holds found records changes).0

pub returns-clause-inserts : goal.returns-clause-inserts
returns-clause-inserts c =
    λ old new root lows key value leaf i tree holds found records changes. (trees.inserts old new root lows key value leaf i tree holds found records changes).1
