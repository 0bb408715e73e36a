use Rattle.std.proofs.Common.{arith}
use Rattle.std.proofs.lemmas.Result.{err_from_is_err_and}
use Rattle.btree_merge.proofs.Going.{reads_one, reads_more}
use Rattle.btree_merge.proofs.Sparse as sparse
use Rattle.btree_merge.proofs.tidying.find_sparse.Goals as goal

pub returns-in_err-above-clause-reads : goal.returns-in_err-above-clause-reads
returns-in_err-above-clause-reads g c =
    reads_more 1 2 (g.M.Mtr.state c.args.m.now) (g.M.Mtr.state c.copy_of.new.m) (omega arith)
    (reads_one c.args.parent (g.M.Mtr.state c.args.m.now) (g.M.Mtr.state c.copy_of.new.m) c.copy_of.ensures.looks)

pub returns-in_err-place-clause-reads : goal.returns-in_err-place-clause-reads
returns-in_err-place-clause-reads g c =
    sparse.one_reads c.args.tree c.args.key.now c.args.parent (g.M.Mtr.state c.args.m.now) (g.M.Mtr.state c.copy_of.new.m) c.requires.tree c.requires.parent
    c.in_ok-above.ensures.looks c.in_ok-above.above c.in_ok-above.ensures.shown

pub returns-in_err-place-clause-reason : goal.returns-in_err-place-clause-reason
returns-in_err-place-clause-reason g c =
    let p = err_from_is_err_and c.from_residual-in_err-place.result c.from_residual-in_err-place.ensures.1 in
    rw (p.1, p.2) (sparse.refused c.args.tree c.args.key.now c.args.parent (g.M.Mtr.state c.args.m.now) (g.M.Mtr.state c.copy_of.new.m)
    c.requires.tree c.requires.parent
    c.in_ok-above.ensures.looks c.in_ok-above.above c.in_ok-above.ensures.shown
    g.M.Mtr.state c.in_err-place.field-0.0 c.in_err-place.ensures.refused)

pub leaf_copy-requires-clause-few : goal.leaf_copy-requires-clause-few
leaf_copy-requires-clause-few g c =
    sparse.few_leaf c.args.tree c.args.key.now c.args.parent (g.M.Mtr.state c.args.m.now) (g.M.Mtr.state c.copy_of.new.m) c.requires.tree c.requires.parent
    c.in_ok-above.ensures.looks c.in_ok-above.above c.in_ok-above.ensures.shown
    c.child_at-leaf.result c.in_ok-place.place c.in_ok-place.ensures.within c.in_ok-place.ensures.leads c.child_at-leaf.ensures c.requires.few

pub leaf_copy-requires-clause-leaf : goal.leaf_copy-requires-clause-leaf
leaf_copy-requires-clause-leaf g c =
    sparse.leaf_reads c.args.tree c.args.key.now c.args.parent (g.M.Mtr.state c.args.m.now) (g.M.Mtr.state c.copy_of.new.m) c.requires.tree c.requires.parent
    c.in_ok-above.ensures.looks c.in_ok-above.above c.in_ok-above.ensures.shown
    c.child_at-leaf.result c.in_ok-place.place c.in_ok-place.ensures.within c.in_ok-place.ensures.leads c.child_at-leaf.ensures

pub returns-in_err-bytes-clause-reads : goal.returns-in_err-bytes-clause-reads
returns-in_err-bytes-clause-reads g c =
    sparse.two_reads c.args.tree c.args.key.now c.args.parent (g.M.Mtr.state c.args.m.now) (g.M.Mtr.state c.copy_of.new.m) c.requires.tree c.requires.parent
    c.in_ok-above.ensures.looks c.in_ok-above.above c.in_ok-above.ensures.shown
    c.child_at-leaf.result c.in_ok-place.place c.in_ok-place.ensures.within c.in_ok-place.ensures.leads c.child_at-leaf.ensures
    (g.M.Mtr.state c.leaf_copy.new.m) c.leaf_copy.ensures.looks

pub returns-then-holds_few-clause-reads : goal.returns-then-holds_few-clause-reads
returns-then-holds_few-clause-reads g c =
    sparse.two_reads c.args.tree c.args.key.now c.args.parent (g.M.Mtr.state c.args.m.now) (g.M.Mtr.state c.copy_of.new.m) c.requires.tree c.requires.parent
    c.in_ok-above.ensures.looks c.in_ok-above.above c.in_ok-above.ensures.shown
    c.child_at-leaf.result c.in_ok-place.place c.in_ok-place.ensures.within c.in_ok-place.ensures.leads c.child_at-leaf.ensures
    (g.M.Mtr.state c.leaf_copy.new.m) c.leaf_copy.ensures.looks

pub returns-else-holds_few-clause-reads : goal.returns-else-holds_few-clause-reads
returns-else-holds_few-clause-reads g c =
    sparse.two_reads c.args.tree c.args.key.now c.args.parent (g.M.Mtr.state c.args.m.now) (g.M.Mtr.state c.copy_of.new.m) c.requires.tree c.requires.parent
    c.in_ok-above.ensures.looks c.in_ok-above.above c.in_ok-above.ensures.shown
    c.child_at-leaf.result c.in_ok-place.place c.in_ok-place.ensures.within c.in_ok-place.ensures.leads c.child_at-leaf.ensures
    (g.M.Mtr.state c.leaf_copy.new.m) c.leaf_copy.ensures.looks

pub returns-then-holds_few-clause-found : goal.returns-then-holds_few-clause-found
returns-then-holds_few-clause-found g c =
    sparse.is_sparse c.args.tree c.args.key.now c.args.parent (g.M.Mtr.state c.args.m.now) (g.M.Mtr.state c.copy_of.new.m) c.requires.tree c.requires.parent
    c.in_ok-above.ensures.looks c.in_ok-above.above c.in_ok-above.ensures.shown
    c.child_at-leaf.result c.in_ok-place.place c.in_ok-place.ensures.within c.in_ok-place.ensures.leads c.child_at-leaf.ensures
    (g.M.Mtr.state c.leaf_copy.new.m) c.leaf_copy.ensures.looks c.in_ok-bytes.bytes c.in_ok-bytes.ensures.shown c.if-holds_few.ensures

pub returns-else-holds_few-clause-found : goal.returns-else-holds_few-clause-found
returns-else-holds_few-clause-found g c =
    sparse.not_sparse c.args.tree c.args.key.now c.args.parent (g.M.Mtr.state c.args.m.now) (g.M.Mtr.state c.copy_of.new.m) c.requires.tree c.requires.parent
    c.in_ok-above.ensures.looks c.in_ok-above.above c.in_ok-above.ensures.shown
    c.child_at-leaf.result c.in_ok-place.place c.in_ok-place.ensures.within c.in_ok-place.ensures.leads c.child_at-leaf.ensures
    (g.M.Mtr.state c.leaf_copy.new.m) c.leaf_copy.ensures.looks c.in_ok-bytes.bytes c.in_ok-bytes.ensures.shown c.if-holds_few.ensures
