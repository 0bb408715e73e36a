use Rattle.std.proofs.Common.{ℕ, List, subst}
use Rattle.btree_split.specs.Ways.{needed}
use Rattle.btree_grow.specs.Grown.{HasGrown}
use Rattle.btree_grow.proofs.Inserting as inserting
use Rattle.btree_grow.proofs.inserts.insert_grown.Goals as goal

pub finish_in-requires-clause-leaf : goal.finish_in-requires-clause-leaf
finish_in-requires-clause-leaf g c = λ told.
    let made = rw c.in-Ok-Leaf.field-0-is at c.in-Ok-Leaf.ensures.made in
    inserting.grown_leaf c.args.tree c.args.key.now (needed c.args.lowest.above c.args.lowest.full) c.in-Ok-Leaf.leaf (g.M.Mtr.state c.args.m.now).seen
    (g.M.Mtr.state c.make_room.new.m).seen (made told)

pub returns-in_ok-finish_in-in-Ok-Leaf-clause-done : goal.returns-in_ok-finish_in-in-Ok-Leaf-clause-done
returns-in_ok-finish_in-in-Ok-Leaf-clause-done g c = λ told.
    let a = g.M.Mtr.state c.args.m.now in
    let b = g.M.Mtr.state c.make_room.new.m in
    let finished = c.in_ok-finish_in-in-Ok-Leaf.ensures in
    let told_b = finished.ends.goes.told told in
    let told_a = c.make_room.ensures.goes_on.goes.told told_b in
    let made = rw c.in-Ok-Leaf.field-0-is at c.in-Ok-Leaf.ensures.made in
    inserting.added_grown c.args.tree c.args.key.now c.args.value.now a.standing (g.M.Mtr.state c.finish_in.new.m).standing (c.requires.absent told_a)
    (c.requires.crowded told_a) (c.requires.tree told_a) c.args.lowest.above c.args.lowest.full (c.requires.way told_a) c.requires.low c.in-Ok-Leaf.leaf b.seen
    (subst (λ (f : ℕ → List ℕ). HasGrown c.args.tree c.args.key.now (needed c.args.lowest.above c.args.lowest.full) 0 c.in-Ok-Leaf.leaf f b.seen)
    (c.requires.idle.seen told_a) (made told_b))
    (finished.done told) (finished.elsewhere told)
