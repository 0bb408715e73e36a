use Rattle.law_flat_tree.proofs.PageSplits.{page_is_split}
use Rattle.law_flat_tree.proofs.page_splits.a_page_of_a_tree_is_split.Goals as goal

pub returns : goal.returns
returns c = page_is_split
