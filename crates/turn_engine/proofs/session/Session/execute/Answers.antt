use Rattle.std.proofs.Common.{List, sym, ap, ◌∙◌}
use Rattle.turn_rule.specs.declared.rule.View.{View}
use Rattle.turn_engine.specs.Sessions.{view_in}
use Rattle.turn_engine.proofs.Seats.{lost_call}
use Rattle.turn_engine.proofs.session.Session.execute.Goals as goal

pub returns-in-None-clause-call : goal.returns-in-None-clause-call
returns-in-None-clause-call g c =
    let from = ap (λ b. b.views) (sym c.replace-badge.ensures.value) ∙ c.into_seat-pass.ensures.2 in
    let mine = sym (ap (λ (vs : List View). (view_in vs).mine.number) from) ∙ c.self.invariant.number_is in
    lost_call c.args.self.now _ _ c.self.inside.badge.views c.into_badge.result.views _ c.into_seat-pass.result.me.0 c.call-reply.new.pass.me.0 _
    c.args.item.now c.self.view_is c.if-self.false from c.into_badge.ensures.2 mine c.call-reply.ensures.rests.at_rest.number_is c.in-None.ensures.none
