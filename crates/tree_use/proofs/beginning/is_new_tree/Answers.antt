use Rattle.std.proofs.Common.{subst}
use Rattle.std.specs.Prelude.{MatchBool}
use Rattle.tree_use.specs.Beginning.{IsEmptyLeaf}
use Rattle.tree_use.proofs.Resting.{AreResident, ok_gives}
use Rattle.tree_use.proofs.New.{new_rest, new_none, new_shown}
use Rattle.tree_use.proofs.beginning.is_new_tree.Given
use Rattle.tree_use.proofs.beginning.is_new_tree.Goals as goal

resident : (g : Given.Over) → AreResident (g.M.Mtr.state)
resident g = record { no_fault = g.met.M.Resident.no_fault; at_hand = g.met.M.Resident.at_hand; tested = g.met.M.Resident.tested }

pub returns-then-is_counted-clause-rest : goal.returns-then-is_counted-clause-rest
returns-then-is_counted-clause-rest g c = λ empty.
    new_rest (g.M.Mtr.state) (resident g) c.args.tree c.requires.widths c.args.m.now c.copied.new.m c.copied-2.new.m c.copied-3.new.m c.requires.told
    c.requires.spare c.copied.ensures.reads c.copied-2.ensures.reads c.copied-3.ensures.reads c.sure-header.result c.sure-map.result c.sure-root.result
    (ok_gives _ c.copied.result c.sure-header.result c.sure-header.ensures c.copied.ensures.shown)
    (ok_gives _ c.copied-2.result c.sure-map.result c.sure-map.ensures c.copied-2.ensures.shown)
    (ok_gives _ c.copied-3.result c.sure-root.result c.sure-root.ensures c.copied-3.ensures.shown)
    c.if-is_counted.ensures
    (subst (λ b. MatchBool b (IsEmptyLeaf c.args.tree c.sure-root.result) (IsEmptyLeaf c.args.tree c.sure-root.result → ⊥)) empty c.is_empty_leaf.ensures)

pub returns-then-is_counted-clause-none : goal.returns-then-is_counted-clause-none
returns-then-is_counted-clause-none g c = λ empty.
    new_none (g.M.Mtr.state) (resident g) c.args.tree c.requires.widths c.args.m.now c.copied.new.m c.copied-2.new.m c.copied-3.new.m c.requires.told
    c.requires.spare c.copied.ensures.reads c.copied-2.ensures.reads c.copied-3.ensures.reads c.sure-header.result c.sure-map.result c.sure-root.result
    (ok_gives _ c.copied.result c.sure-header.result c.sure-header.ensures c.copied.ensures.shown)
    (ok_gives _ c.copied-2.result c.sure-map.result c.sure-map.ensures c.copied-2.ensures.shown)
    (ok_gives _ c.copied-3.result c.sure-root.result c.sure-root.ensures c.copied-3.ensures.shown)
    c.if-is_counted.ensures
    (subst (λ b. MatchBool b (IsEmptyLeaf c.args.tree c.sure-root.result) (IsEmptyLeaf c.args.tree c.sure-root.result → ⊥)) empty c.is_empty_leaf.ensures)

pub returns-then-is_counted-clause-other : goal.returns-then-is_counted-clause-other
returns-then-is_counted-clause-other g c = λ is holds.
    subst (λ b. MatchBool b (IsEmptyLeaf c.args.tree c.sure-root.result) (IsEmptyLeaf c.args.tree c.sure-root.result → ⊥)) is c.is_empty_leaf.ensures
    (new_shown (g.M.Mtr.state) (resident g) c.args.tree c.args.m.now c.copied.new.m c.copied-2.new.m c.copied-3.new.m c.requires.told
    c.copied.ensures.reads c.copied-2.ensures.reads c.copied-3.ensures.reads c.sure-header.result c.sure-map.result c.sure-root.result
    (ok_gives _ c.copied.result c.sure-header.result c.sure-header.ensures c.copied.ensures.shown)
    (ok_gives _ c.copied-2.result c.sure-map.result c.sure-map.ensures c.copied-2.ensures.shown)
    (ok_gives _ c.copied-3.result c.sure-root.result c.sure-root.ensures c.copied-3.ensures.shown) holds).1

pub returns-else-is_counted-clause-other : goal.returns-else-is_counted-clause-other
returns-else-is_counted-clause-other g c = λ is holds.
    c.if-is_counted.ensures
    (new_shown (g.M.Mtr.state) (resident g) c.args.tree c.args.m.now c.copied.new.m c.copied-2.new.m c.copied-3.new.m c.requires.told
    c.copied.ensures.reads c.copied-2.ensures.reads c.copied-3.ensures.reads c.sure-header.result c.sure-map.result c.sure-root.result
    (ok_gives _ c.copied.result c.sure-header.result c.sure-header.ensures c.copied.ensures.shown)
    (ok_gives _ c.copied-2.result c.sure-map.result c.sure-map.ensures c.copied-2.ensures.shown)
    (ok_gives _ c.copied-3.result c.sure-root.result c.sure-root.ensures c.copied-3.ensures.shown) holds).0
