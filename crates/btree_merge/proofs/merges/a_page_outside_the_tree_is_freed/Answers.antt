use Rattle.btree_merge.proofs.Freeing.{freed_levels, freed_pairs, freed_placed}
use Rattle.btree_merge.proofs.merges.a_page_outside_the_tree_is_freed.Goals as goal

pub returns-clause-placed : goal.returns-clause-placed
returns-clause-placed c = λ tree old new page placed nowhere far frees. freed_placed tree old new page placed nowhere far frees

pub returns-clause-same_levels : goal.returns-clause-same_levels
returns-clause-same_levels c = λ tree old new page placed nowhere far frees. freed_levels tree old new page placed nowhere far frees

pub returns-clause-same_pairs : goal.returns-clause-same_pairs
returns-clause-same_pairs c = λ tree old new page placed nowhere far frees. freed_pairs tree old new page placed nowhere far frees
