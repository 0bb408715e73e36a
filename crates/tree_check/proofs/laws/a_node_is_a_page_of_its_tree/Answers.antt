use Rattle.tree_check.proofs.Leaf.{tree_page, leaf_page}
use Rattle.tree_check.proofs.laws.a_node_is_a_page_of_its_tree.Goals as goal

pub returns-clause-page : goal.returns-clause-page
returns-clause-page c = λ tree pages page level some within fields node. tree_page tree pages page level some within fields node

pub returns-clause-leaf : goal.returns-clause-leaf
returns-clause-leaf c = λ tree bytes some order node. leaf_page tree bytes some order node
