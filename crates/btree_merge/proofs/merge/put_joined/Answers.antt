use Rattle.std.proofs.Common.{arith}
use Rattle.std.proofs.lemmas.Result.{on_ok_weaker}
use Rattle.btree_merge.proofs.Putting as putting
use Rattle.btree_merge.proofs.merge.put_joined.Goals as goal

pub put_image-requires-clause-within : goal.put_image-requires-clause-within
put_image-requires-clause-within g c =
    putting.left_within c.args.tree c.args.parent c.args.place c.args.both.now (g.M.Mtr.state c.args.m.now) c.requires.ready

pub put_edit-requires-clause-within : goal.put_edit-requires-clause-within
put_edit-requires-clause-within g c =
    putting.parent_within c.args.tree c.args.parent c.args.place c.args.both.now (g.M.Mtr.state c.args.m.now) c.requires.ready c.joined-page.result
    (g.M.Mtr.state c.put_image.new.m) c.in_ok-put_image.ensures.put

pub put_edit-requires-clause-some : goal.put_edit-requires-clause-some
put_edit-requires-clause-some g c =
    putting.parent_some c.args.tree c.args.parent c.args.place c.args.both.now (g.M.Mtr.state c.args.m.now) c.requires.ready c.joined-page.result
    (g.M.Mtr.state c.put_image.new.m) c.in_ok-put_image.ensures.put

pub returns-clause-goes_on : goal.returns-clause-goes_on
returns-clause-goes_on g c =
    putting.two_on c.args.tree c.args.parent c.args.place c.args.both.now (g.M.Mtr.state c.args.m.now) c.requires.ready c.joined-page.result
    (g.M.Mtr.state c.put_image.new.m) c.in_ok-put_image.ensures.put (g.M.Mtr.state c.put_edit.new.m) c.requires.dealt_with.parent
    c.put_edit.ensures.touches

pub returns-clause-merges : goal.returns-clause-merges
returns-clause-merges g c =
    on_ok_weaker c.put_edit.result (λ put.
    putting.merges c.args.tree c.args.parent c.args.place c.args.both.now (g.M.Mtr.state c.args.m.now) c.requires.ready c.joined-page.result
    (g.M.Mtr.state c.put_image.new.m) c.in_ok-put_image.ensures.put (g.M.Mtr.state c.put_edit.new.m) c.removal-entry.result put
    (omega arith) c.joined-page.ensures c.removal-entry.ensures)
    c.put_edit.ensures.put
