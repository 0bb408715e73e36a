use Rattle.std.proofs.Common.{◌≡◌, false, sym, subst}
use Rattle.durable_engine.specs.Seats.{phase_at}
use Rattle.durable_engine.specs.StoppedCalls.{is_at_work, has_left}
use Rattle.script_runner.proofs.Stepping.{idle}
use Rattle.script_runner.proofs.seats.SeatsSessions.start.Goals as goal

pub start-requires-clause-idle : goal.start-requires-clause-idle
start-requires-clause-idle g c =
    idle (phase_at c.self.inside.engine.seats c.args.s)
    (subst (λ a. is_at_work (phase_at a.0.seats c.args.s) ≡ false) (sym c.self.view_is) c.requires.idle.rests)
    (subst (λ a. has_left (phase_at a.0.seats c.args.s) ≡ false) (sym c.self.view_is) c.requires.idle.is_there)
