use Rattle.std.proofs.lemmas.Result.{on_err_weaker}
use Rattle.btree_change.proofs.Steps.{given_up_after}
use Rattle.btree_grow.proofs.inserts.finish_in.Goals as goal

pub returns-in-Ok-Added-clause-kept : goal.returns-in-Ok-Added-clause-kept
returns-in-Ok-Added-clause-kept g c =
    on_err_weaker c.settle.result (λ given.
    given_up_after c.args.leaf (g.M.Mtr.state c.args.m.now) (g.M.Mtr.state c.insert_in.new.m) (g.M.Mtr.state c.settle.new.m) c.insert_in.ensures.touches given)
    c.settle.ensures.given_up
