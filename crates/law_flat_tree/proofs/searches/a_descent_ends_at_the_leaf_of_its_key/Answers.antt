use Rattle.law_flat_tree.proofs.Reading.{root_holds, child_holds, find_leads, one_shape}
use Rattle.law_flat_tree.proofs.Trees as trees
use Rattle.law_flat_tree.proofs.searches.a_descent_ends_at_the_leaf_of_its_key.Goals as goal

pub returns-clause-root_holds : goal.returns-clause-root_holds
returns-clause-root_holds c = root_holds

pub returns-clause-child_holds : goal.returns-clause-child_holds
returns-clause-child_holds c = child_holds

pub returns-clause-find_leads : goal.returns-clause-find_leads
returns-clause-find_leads c = find_leads

pub returns-clause-leaf_found : goal.returns-clause-leaf_found
returns-clause-leaf_found c = trees.leaf_found

pub returns-clause-one_shape : goal.returns-clause-one_shape
returns-clause-one_shape c = one_shape
