use Rattle.std.proofs.Common.{sym, subst, ◌∙◌}
use Rattle.list_world.specs.Parts.{world_of}
use Rattle.engine.specs.Laid.{IsLaid}
use Rattle.engine.proofs.Laying.{empty_db, laid_new}
use Rattle.engine.proofs.opened.Opening.new.Goals as goal

pub invariant_of-result : goal.invariant_of-result
invariant_of-result c =
    subst (λ db. IsLaid db (world_of c.in_ok-new.field-0)) (sym (c.new-3.ensures ∙ empty_db c.new.result c.new-2.result c.new.ensures c.new-2.ensures))
    (laid_new (world_of c.in_ok-new.field-0) c.in_ok-new.ensures)
