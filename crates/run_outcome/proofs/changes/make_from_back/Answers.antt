use Rattle.std.proofs.Common.{◌∙◌, [], ◌∷◌, sym, ap}
use Rattle.inno_model.specs.Past.{changed}
use Rattle.sql_history.proofs.Pasts.{changed_append}
use Rattle.run_outcome.proofs.changes.make_from_back.Goals as goal

pub loop-change-preserved : goal.loop-change-preserved
loop-change-preserved c =
    ap (λ db. changed db c.pop.new.self.items) c.in_ok-make_change.ensures
    ∙ sym (changed_append c.loop-change.db c.pop.new.self.items (c.in-Some.change ∷ []))
    ∙ ap (changed c.loop-change.db) (sym c.in-Some.ensures.items)
    ∙ c.loop-change.invariant
