use Rattle.std.proofs.Common.{◌≡◌, ◌<◌, true, length, sym, subst}
use Rattle.durable_engine.specs.Seats.{phase_at}
use Rattle.durable_engine.specs.StoppedCalls.{is_at_work}
use Rattle.script_play.specs.Sessions.{StartsNothing}
use Rattle.shared_engine.proofs.Resting.{stepped_rests}
use Rattle.script_runner.specs.Engines.{shown_of}
use Rattle.script_runner.proofs.Stepping.{starts_nothing}
use Rattle.script_runner.proofs.seats.SeatsSessions.step.Goals as goal

pub returns-clause-starts : goal.returns-clause-starts
returns-clause-starts g c =
    subst (λ a. StartsNothing (shown_of a.1 a.0) (shown_of c.self.inside.moment c.step.new.self)) c.self.view_is
    (starts_nothing c.args.s c.self.inside.moment c.step.result c.self.inside.engine c.step.new.self c.step.ensures.steps)

pub invariant_of-self : goal.invariant_of-self
invariant_of-self g c =
    stepped_rests c.args.s c.step.result c.self.inside.engine c.step.new.self c.self.invariant
    (subst (λ a. c.args.s < length a.0.names) (sym c.self.view_is) c.requires.joined)
    (subst (λ a. is_at_work (phase_at a.0.seats c.args.s) ≡ true) (sym c.self.view_is) c.requires.working)
    c.step.ensures.steps
