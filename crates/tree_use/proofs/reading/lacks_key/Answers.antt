use Rattle.std.proofs.Common.{ℕ, List, length, ap, sym, ◌∙◌}
use Rattle.tree_use.proofs.Resting.{AreResident, on_ok_gives, told_on, still, read_ok}
use Rattle.tree_use.proofs.Widths.{lacks_width}
use Rattle.tree_use.proofs.reading.lacks_key.Given
use Rattle.tree_use.proofs.reading.lacks_key.Goals as goal

resident : (g : Given.Over) → AreResident (g.M.Mtr.state)
resident g = record { no_fault = g.met.M.Resident.no_fault; at_hand = g.met.M.Resident.at_hand; tested = g.met.M.Resident.tested }

pub sure-requires : goal.sure-requires
sure-requires g c =
    read_ok (g.M.Mtr.state) (resident g) c.sure_leaf-leaf.new.m c.look_at.new.m c.look_at.result
    (told_on (g.M.Mtr.state) (resident g) c.sure_leaf-leaf.new.m c.look_at.new.m c.look_at.ensures.reads.goes
    c.sure_leaf-leaf.ensures.still.rest.told) c.look_at.ensures.reason

pub returns-clause-none : goal.returns-clause-none
returns-clause-none g c =
    let was = c.sure_leaf-leaf.ensures.still in
    let told = told_on (g.M.Mtr.state) (resident g) c.sure_leaf-leaf.new.m c.look_at.new.m c.look_at.ensures.reads.goes was.rest.told in
    lacks_width c.args.tree (g.M.Mtr.state c.args.m.now).standing c.requires.rest.placed.whole.sound c.args.key.now c.sure_leaf-leaf.result
    c.sure_leaf-leaf.ensures.holds c.requires.width
    (ap (λ (p : ℕ → List ℕ). length (p c.sure_leaf-leaf.result)) (sym was.same)
    ∙ on_ok_gives _ c.look_at.result c.sure.result c.sure.ensures c.look_at.ensures.size told)

pub returns-clause-still : goal.returns-clause-still
returns-clause-still g c =
    let was = c.sure_leaf-leaf.ensures.still in
    let is = still (g.M.Mtr.state) (resident g) c.args.tree c.sure_leaf-leaf.new.m c.look_at.new.m was.rest c.look_at.ensures.reads in
    record { rest = is.rest; same = is.same ∙ was.same }
