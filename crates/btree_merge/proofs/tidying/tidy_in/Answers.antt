use Rattle.std.proofs.Common.{subst}
use Rattle.std.proofs.lemmas.Result.{IfOk-weaker}
use Rattle.btree_merge.specs.Tidied.{IsSparse}
use Rattle.btree_merge.proofs.Sparse.{tidied}
use Rattle.btree_merge.proofs.tidying.tidy_in.Goals as goal

pub returns-in-Some-clause-done : goal.returns-in-Some-clause-done
returns-in-Some-clause-done g c =
    let a = (g.M.Mtr.state c.args.m.now).seen in
    let b = (g.M.Mtr.state c.find_sparse.new.m).seen in
    IfOk-weaker c.merge_beside.result _ _ (λ freed does told.
    let before = c.merge_beside.ensures.goes_on.goes.told told in
    tidied c.args.tree c.args.key.now c.args.parent c.in-Some.place a b (g.M.Mtr.state c.merge_beside.new.m).seen
    (subst (IsSparse c.args.tree a c.args.key.now c.args.parent) c.in-Some.is (c.in_ok-place.ensures.found before))
    (c.find_sparse.ensures.reads.seen before) freed (does told))
    c.merge_beside.ensures.done
