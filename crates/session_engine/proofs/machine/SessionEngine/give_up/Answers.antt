use Rattle.std.proofs.Common.{length, ◌<◌, ◌∙◌, subst, sym}
use Rattle.session_engine.proofs.Seating.{spelled_at, gave_up_keeps, gave_up_steps, gave_up_lacks, gave_up_since, gave_up_busy}
use Rattle.session_engine.proofs.machine.SessionEngine.give_up.Goals as goal

pub invariant_of-self : goal.invariant_of-self
invariant_of-self g c =
    let engine = c.self.inside in
    let joined : c.args.s < length engine.lists.names = subst (λ st. c.args.s < length st.lists.names) (sym c.self.view_is) c.requires.joined in
    let step = c.without_room-statement in
    rw (c.replace-in-Busy.ensures.is, c.replace.ensures.is)
    (gave_up_keeps engine.lists step.new.lists engine.seats c.args.s c.self.invariant joined c.in-Busy.statement step.result.0 step.result.1
    step.ensures.lacks
    (spelled_at engine.lists step.new.lists engine.seats c.args.s c.self.invariant joined c.in-Busy.statement (sym c.replace.ensures.was ∙ c.in-Busy.is))
    step.ensures.step.steps)

pub returns-clause-steps : goal.returns-clause-steps
returns-clause-steps g c =
    let engine = c.self.inside in
    let joined : c.args.s < length engine.lists.names = subst (λ st. c.args.s < length st.lists.names) (sym c.self.view_is) c.requires.joined in
    let step = c.without_room-statement in
    rw (← c.self.view_is, c.replace-in-Busy.ensures.is, c.replace.ensures.is)
    (gave_up_steps engine.lists step.new.lists engine.seats c.args.s c.self.invariant joined c.in-Busy.statement step.result.0 step.result.1
    step.ensures.lacks step.ensures.step.steps)

pub returns-clause-lacks : goal.returns-clause-lacks
returns-clause-lacks g c =
    let engine = c.self.inside in
    let joined : c.args.s < length engine.lists.names = subst (λ st. c.args.s < length st.lists.names) (sym c.self.view_is) c.requires.joined in
    let step = c.without_room-statement in
    rw (← c.self.view_is, c.replace-in-Busy.ensures.is, c.replace.ensures.is)
    (gave_up_lacks engine.lists step.new.lists engine.seats c.args.s c.self.invariant joined c.in-Busy.statement step.result.0 step.result.1
    step.ensures.lacks (sym c.replace.ensures.was ∙ c.in-Busy.is) step.ensures.step.nears)

pub returns-clause-busy : goal.returns-clause-busy
returns-clause-busy g c =
    let engine = c.self.inside in
    let joined : c.args.s < length engine.lists.names = subst (λ st. c.args.s < length st.lists.names) (sym c.self.view_is) c.requires.joined in
    let step = c.without_room-statement in
    rw (c.replace-in-Busy.ensures.is, c.replace.ensures.is)
    (gave_up_busy engine.lists step.new.lists engine.seats c.args.s c.self.invariant joined c.in-Busy.statement step.result.0 step.result.1
    step.ensures.lacks)

pub returns-clause-since : goal.returns-clause-since
returns-clause-since g c =
    let engine = c.self.inside in
    let joined : c.args.s < length engine.lists.names = subst (λ st. c.args.s < length st.lists.names) (sym c.self.view_is) c.requires.joined in
    let step = c.without_room-statement in
    rw (c.replace-in-Busy.ensures.is, c.replace.ensures.is)
    (gave_up_since engine.lists step.new.lists engine.seats c.args.s c.self.invariant joined c.in-Busy.statement step.result.0 step.result.1
    step.ensures.lacks)
