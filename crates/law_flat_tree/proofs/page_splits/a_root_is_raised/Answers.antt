use Rattle.law_flat_tree.proofs.PageRaises.{raised_tree, raised_pairs}
use Rattle.law_flat_tree.proofs.page_splits.a_root_is_raised.Goals as goal

pub returns-clause-tree : goal.returns-clause-tree
returns-clause-tree c = raised_tree

pub returns-clause-same_pairs : goal.returns-clause-same_pairs
returns-clause-same_pairs c = raised_pairs
