use Rattle.std.proofs.Common.{◌∙◌, ap, [], ◌∷◌}
use Rattle.inno_model.specs.declared.event.Event.TheVariants.{Opened}
use Rattle.session_engine.proofs.Seating.{are_first}
use Rattle.engine.proofs.opening.lists_over.Goals as goal

pub returns-in-Ok-clause-first : goal.returns-in-Ok-clause-first
returns-in-Ok-clause-first c =
    let fresh = c.in_ok-world.ensures.ok in
    let past = c.in-Ok.ensures.past ∙ (fresh.0.past ∙ ap (λ db. Opened db ∷ []) fresh.1) in
    are_first c.args.opening c.in-Ok.lists c.new-in-Ok.result c.in-Ok.ensures.first past c.new-in-Ok.ensures.same
