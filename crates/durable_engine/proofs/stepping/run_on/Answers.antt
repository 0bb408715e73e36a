use Rattle.std.proofs.Common.{◌≡◌, false, arith}
use Rattle.std.proofs.lemmas.Grind.{common_steps}
use Rattle.session_engine.specs.Seats.{seat_at, owes}
use Rattle.durable_engine.specs.State.{running_state}
use Rattle.durable_engine.proofs.Keeping.{acked_on, ran_in_time, acked_in_time, stopped_in_time}
use Rattle.durable_engine.proofs.stepping.run_on.Goals as goal

pub returns-then-not-owes_ack-clause-kept : goal.returns-then-not-owes_ack-clause-kept
returns-then-not-owes_ack-clause-kept g c = λ root is. (c.step-progress.ensures.kept root (g.D.Disk.past c.args.disk.now) is.0, is.1)

pub returns-in-Ok-clause-steps : goal.returns-in-Ok-clause-steps
returns-in-Ok-clause-steps g c =
    acked_on c.args.s _ c.args.disk.now c.acknowledge.new.disk c.args.sessions c.acknowledge.new.self c.in-Ok.ensures.ok c.acknowledge.ensures.phases
    c.requires.working

pub returns-in-Ok-clause-kept : goal.returns-in-Ok-clause-kept
returns-in-Ok-clause-kept g c =
    λ root is. (c.acknowledge.ensures.kept root is.0, omega (arith, is.1, c.acknowledge.ensures.cause.later))

pub returns-in-Err-clause-kept : goal.returns-in-Err-clause-kept
returns-in-Err-clause-kept g c =
    λ root is. (
      c.stop-stopped.ensures.kept root (g.D.Disk.past c.acknowledge.new.disk) (c.acknowledge.ensures.kept root is.0).durable.keeps,
      omega (arith, is.1, c.in-Err.ensures.cause.failed),
      c.stop-stopped.ensures.stops.cause_is,
      c.stop-stopped.ensures.exact,
    )

pub returns-then-not-owes_ack-clause-time : goal.returns-then-not-owes_ack-clause-time
returns-then-not-owes_ack-clause-time g c =
    let unowed : owes (seat_at c.args.sessions.sessions.seats c.args.s) ≡ false = grind (arith, common_steps) in
    ran_in_time c.args.disk.now c.args.s c.args.now (g.D.Disk.past c.args.disk.now).moment c.args.sessions c.step-progress.new.self c.step-progress.result
    c.step-progress.ensures.steps c.step-progress.ensures.since c.step-progress.ensures.waits c.step-progress.ensures.long unowed

pub returns-in-Ok-clause-time : goal.returns-in-Ok-clause-time
returns-in-Ok-clause-time g c =
    acked_in_time c.args.s c.args.now (g.D.Disk.past c.acknowledge.new.disk).moment c.args.disk.now c.acknowledge.new.disk c.args.sessions
    c.acknowledge.new.self c.in-Ok.ensures.ok c.in-Ok.ensures.since

pub returns-in-Err-clause-time : goal.returns-in-Err-clause-time
returns-in-Err-clause-time g c =
    let stops = c.stop-stopped.ensures.stops in
    stopped_in_time c.args.s c.args.now (g.D.Disk.past c.acknowledge.new.disk).moment c.acknowledge.new.disk
    (running_state c.args.disk.now c.args.sessions) stops.before c.stop-stopped.result.0 c.stop-stopped.result.1 stops.steps
