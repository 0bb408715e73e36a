use Rattle.btree.proofs.Shown.{leaf_shown}
use Rattle.btree_merge.proofs.reading.leaf_copy.Goals as goal

pub returns-then-not-is_readable_leaf-clause-reason : goal.returns-then-not-is_readable_leaf-clause-reason
returns-then-not-is_readable_leaf-clause-reason g c = λ told.
    let before = c.copy_of.ensures.looks.goes.told told in
    absurd (c.if-not-is_readable_leaf.ensures
    (leaf_shown c.in_ok-bytes.bytes ((g.M.Mtr.state c.args.m.now).seen c.args.page) (c.in_ok-bytes.ensures.shown before).same c.args.tree
    (c.requires.leaf before)))
