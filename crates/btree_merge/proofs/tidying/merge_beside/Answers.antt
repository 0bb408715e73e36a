use Rattle.std.proofs.Common.{subst}
use Rattle.std.proofs.lemmas.Result.{IfOk-weaker}
use Rattle.btree_merge.specs.Merged.{DoesMerge}
use Rattle.btree_merge.proofs.Sparse.{other_side}
use Rattle.btree_merge.proofs.tidying.merge_beside.Goals as goal

pub returns-clause-done : goal.returns-clause-done
returns-clause-done g c =
    let a = (g.M.Mtr.state c.args.m.now).seen in
    let b = (g.M.Mtr.state c.merge_in.new.m).seen in
    IfOk-weaker c.merge_in-2.result _ _ (λ freed does told.
    other_side c.args.tree c.args.parent c.args.place a b (g.M.Mtr.state c.merge_in-2.new.m).seen c.if-place-eq0.false
    (subst (DoesMerge c.args.tree c.args.parent c.args.place a b) c.in-None.is
    (c.in_ok-freed.ensures.done (c.merge_in-2.ensures.goes_on.goes.told told))) freed (does told))
    c.merge_in-2.ensures.done
