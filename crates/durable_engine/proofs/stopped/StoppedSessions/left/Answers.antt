use Rattle.std.proofs.Common.{◌≡◌, ◌∙◌, ap, sym, subst, None}
use Rattle.inno_model.specs.Past.{under_way}
use Rattle.durable_engine.specs.StoppedCalls.{has_left}
use Rattle.durable_engine.specs.Seats.{phase_at}
use Rattle.durable_engine.proofs.StoppedKeeping.{left_rests}
use Rattle.durable_engine.proofs.stopped.StoppedSessions.left.Goals as goal

pub returns-clause-over : goal.returns-clause-over
returns-clause-over c =
    λ yes. subst (λ st. under_way c.args.s st.past ≡ None) c.self.view_is
    (left_rests c.self.inside.history.past c.args.s (phase_at c.self.inside.seats.items c.args.s) (c.self.invariant.seated.each c.args.s).phase
    (sym (c.is_gone.ensures ∙ ap (λ xs. has_left (phase_at xs c.args.s)) c.deref.ensures.value) ∙ yes))
