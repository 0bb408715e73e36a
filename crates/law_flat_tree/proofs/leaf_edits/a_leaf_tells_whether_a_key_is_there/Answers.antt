use Rattle.law_flat_tree.proofs.Trees as trees
use Rattle.law_flat_tree.proofs.leaf_edits.a_leaf_tells_whether_a_key_is_there.Goals as goal

pub returns-clause-there : goal.returns-clause-there
returns-clause-there c = λ pages root lows key leaf i tree holds found. trees.key_there pages root lows key leaf tree holds i found

pub returns-clause-absent : goal.returns-clause-absent
returns-clause-absent c = λ pages root lows key leaf i tree holds found. trees.key_absent pages root lows key leaf tree holds i found
