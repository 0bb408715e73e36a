use Rattle.std.proofs.Common.{ℕ, List, sym, ap, ◌∙◌, subst}
use Rattle.btree_grow.specs.declared.inserts.Outcome.{Outcome}
use Rattle.btree_grow.specs.Adding.{DoesAdd}
use Rattle.tree_use.specs.Stored.{Stored, stored_of}
use Rattle.tree_use.proofs.Growing.{eight_levels}
use Rattle.tree_use.proofs.pages.TreePages.insert.Goals as goal

pub returns-in-Ok-TooDeep : goal.returns-in-Ok-TooDeep
returns-in-Ok-TooDeep g c =
    let tree = c.self.inside.tree in
    let old = (g.M.Mtr.state c.self.inside.m).standing in
    let new = (g.M.Mtr.state c.add_pair.new.m).standing in
    let does =
    subst (λ (done : Outcome). DoesAdd tree c.as_slice.result.now c.as_slice-2.result.now old new done) c.in-Ok-TooDeep.field-0-is
    c.in-Ok-TooDeep.ensures.done
    in
    record {
      answer = (
        sym (ap (λ (s : Stored). s.levels) c.self.view_is) ∙ eight_levels tree old c.as_slice.result.now does.2,
        ap (λ (p : ℕ → List ℕ). stored_of tree p) does.3 ∙ c.self.view_is,
      );
    }
