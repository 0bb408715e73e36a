use Rattle.btree_merge.proofs.Merging.{loses}
use Rattle.btree_merge.proofs.merges.two_leaves_become_one.Goals as goal

pub returns : goal.returns
returns c = λ tree old new u j placed above inside merges. loses tree old u placed above j inside new merges
