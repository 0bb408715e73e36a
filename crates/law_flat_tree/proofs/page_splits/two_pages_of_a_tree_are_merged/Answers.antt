use Rattle.law_flat_tree.proofs.PageMerges.{pages_are_merged}
use Rattle.law_flat_tree.proofs.page_splits.two_pages_of_a_tree_are_merged.Goals as goal

pub returns : goal.returns
returns c = pages_are_merged
