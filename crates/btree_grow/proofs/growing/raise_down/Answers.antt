use Rattle.std.proofs.Common.{◌+◌, subst, sym, arith}
use Rattle.stored_pages.specs.Words.{u32_at}
use Rattle.btree_grow.specs.Grown.{MakesRoom}
use Rattle.btree_grow.proofs.Free.{none_free}
use Rattle.btree_grow.proofs.RaiseTree.{root_level}
use Rattle.btree_grow.proofs.Together.{grown_then}
use Rattle.btree_grow.proofs.growing.raise_down.Goals as goal

pub raise_in-requires-clause-level : goal.raise_in-requires-clause-level
raise_in-requires-clause-level g c = λ told.
    root_level c.args.tree (g.M.Mtr.state c.args.m.now).seen c.args.key.now c.args.full (c.requires.tree told) (c.requires.way told)

pub returns-in-Err-Full-clause-made : goal.returns-in-Err-Full-clause-made
returns-in-Err-Full-clause-made g c = λ told.
    let a = g.M.Mtr.state c.args.m.now in
    let halt = rw c.in-Err-Full.field-0-is at c.in-Err-Full.ensures.reason in (
      sym (none_free a.seen (u32_at 44 (a.seen 0)) (λ page below free. halt told page (record { within = below; unmarked = free }))),
      omega arith,
    )

pub split_down-requires-clause-above : goal.split_down-requires-clause-above
split_down-requires-clause-above g c = λ told.
    (c.in-Ok.ensures.raised told c.args.key.now c.args.full (c.requires.way (c.raise_in.ensures.goes_on.goes.told told))).above

pub returns-in-Leaf-clause-made : goal.returns-in-Leaf-clause-made
returns-in-Leaf-clause-made g c = λ told.
    let told_b = c.split_down.ensures.goes_on.goes.told told in
    let raised = c.in-Ok.ensures.raised told_b c.args.key.now c.args.full (c.requires.way (c.raise_in.ensures.goes_on.goes.told told_b)) in
    grown_then c.args.tree c.args.key.now 1 c.args.full (c.args.full + 1) c.args.full 0 c.args.tree.root c.in-Leaf.leaf (g.M.Mtr.state c.args.m.now).seen
    (g.M.Mtr.state c.raise_in.new.m).seen (g.M.Mtr.state c.split_down.new.m).seen (omega arith) raised
    (subst (λ room. MakesRoom c.args.tree c.args.key.now c.args.full (g.M.Mtr.state c.raise_in.new.m).seen (g.M.Mtr.state c.split_down.new.m).seen room)
    c.in-Leaf.is (c.in_ok-leaf.ensures.made told))
