use Rattle.law_flat_tree.proofs.Trees.{empty_tree}
use Rattle.law_flat_tree.proofs.leaf_edits.an_empty_root_is_a_tree.Goals as goal

pub returns-clause-tree : goal.returns-clause-tree
returns-clause-tree c = λ n pages root empty. (empty_tree n pages root empty).0

pub returns-clause-no_pairs : goal.returns-clause-no_pairs
returns-clause-no_pairs c = λ n pages root empty. (empty_tree n pages root empty).1
