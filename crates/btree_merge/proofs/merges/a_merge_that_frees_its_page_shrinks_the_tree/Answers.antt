use Rattle.btree_merge.proofs.Freeing.{shrinks}
use Rattle.btree_merge.proofs.merges.a_merge_that_frees_its_page_shrinks_the_tree.Goals as goal

pub returns : goal.returns
returns c = λ tree old between new u j placed above inside merges frees. shrinks tree old between new u j placed above inside merges frees
