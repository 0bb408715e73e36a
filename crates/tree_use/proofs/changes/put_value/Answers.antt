use Rattle.std.proofs.Common.{sym, subst, ◌≤◌}
use Rattle.tree_use.proofs.Resting.{AreResident, told_on, not_stopped}
use Rattle.tree_use.proofs.Changing.{leaf_for, replaced_rest, replaced}
use Rattle.tree_use.proofs.changes.put_value.Given
use Rattle.tree_use.proofs.changes.put_value.Goals as goal

resident : (g : Given.Over) → AreResident (g.M.Mtr.state)
resident g = record { no_fault = g.met.M.Resident.no_fault; at_hand = g.met.M.Resident.at_hand; tested = g.met.M.Resident.tested }

pub replace_in-requires-clause-leaf : goal.replace_in-requires-clause-leaf
replace_in-requires-clause-leaf g c = λ told.
    leaf_for (g.M.Mtr.state) (resident g) c.args.tree c.args.key.now c.sure_leaf-leaf.result c.args.m.now c.sure_leaf-leaf.new.m c.requires.rest
    c.sure_leaf-leaf.ensures.still c.sure_leaf-leaf.ensures.holds

pub unreachable-requires : goal.unreachable-requires
unreachable-requires g c =
    let was = c.sure_leaf-leaf.ensures.still.rest in
    not_stopped (g.M.Mtr.state) (resident g) c.sure_leaf-leaf.result c.sure_leaf-leaf.new.m c.replace_in.new.m c.in-Err.field-0
    (told_on (g.M.Mtr.state) (resident g) c.sure_leaf-leaf.new.m c.replace_in.new.m c.in-Err.ensures.touches.goes was.told)
    (subst (λ n. 4096 ≤ n) (sym was.idle.spare) was.spare) c.in-Err.ensures.reason

pub returns-clause-done : goal.returns-clause-done
returns-clause-done g c =
    let was = c.sure_leaf-leaf.ensures.still.rest in
    replaced (g.M.Mtr.state) (resident g) c.args.tree c.args.key.now c.sure_leaf-leaf.result c.args.m.now c.sure_leaf-leaf.new.m c.requires.rest
    c.sure_leaf-leaf.ensures.still c.sure_leaf-leaf.ensures.holds c.replace_in.new.m c.end.new.m c.in-Ok.ensures.touches c.args.value.now c.in-Ok.found
    (c.in-Ok.ensures.done (told_on (g.M.Mtr.state) (resident g) c.sure_leaf-leaf.new.m c.replace_in.new.m c.in-Ok.ensures.touches.goes was.told))
    c.end.ensures.stands c.end.ensures.dropped

pub returns-clause-rest : goal.returns-clause-rest
returns-clause-rest g c =
    let was = c.sure_leaf-leaf.ensures.still.rest in
    replaced_rest (g.M.Mtr.state) (resident g) c.args.tree c.args.key.now c.sure_leaf-leaf.result c.args.m.now c.sure_leaf-leaf.new.m c.requires.rest
    c.sure_leaf-leaf.ensures.still c.sure_leaf-leaf.ensures.holds c.replace_in.new.m c.end.new.m c.in-Ok.ensures.touches c.args.value.now c.in-Ok.found
    (c.in-Ok.ensures.done (told_on (g.M.Mtr.state) (resident g) c.sure_leaf-leaf.new.m c.replace_in.new.m c.in-Ok.ensures.touches.goes was.told))
    c.end.ensures.stands c.end.ensures.dropped
