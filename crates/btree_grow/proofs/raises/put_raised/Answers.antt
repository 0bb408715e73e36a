use Rattle.std.proofs.Common.{arith}
use Rattle.btree_grow.proofs.PutRaised.{raises}
use Rattle.btree_grow.proofs.raises.put_raised.Goals as goal

pub returns-clause-raises : goal.returns-clause-raises
returns-clause-raises g c =
    raises c.args.tree c.args.number c.args.level c.args.bytes.now c.raised_root-root.result (g.M.Mtr.state c.args.m.now) (g.M.Mtr.state c.put_image.new.m)
    c.requires.ready c.in_ok-put_image.ensures.put (g.M.Mtr.state c.put_image-2.new.m) c.in_ok-put_image-2.ensures.put
    c.requires.size (omega arith) c.raised_root-root.ensures
