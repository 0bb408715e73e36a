use Rattle.std.proofs.Common.{subst, ◌∙◌}
use Rattle.durable_engine.specs.State.{IsKept, state_of}
use Rattle.durable_engine.proofs.Keeping.{stopped_in_time}
use Rattle.durable_engine.proofs.stepping.step_of.Goals as goal

pub returns-in-Running-clause-kept : goal.returns-in-Running-clause-kept
returns-in-Running-clause-kept g c =
    λ root kept. c.run_on.ensures.kept root (subst (λ core. IsKept root (g.D.Disk.past c.args.disk.now) core) c.in-Running.is kept)

pub returns-in-Stopped-clause-kept : goal.returns-in-Stopped-clause-kept
returns-in-Stopped-clause-kept g c =
    λ root kept.
    let was = subst (λ core. IsKept root (g.D.Disk.past c.args.disk.now) core) c.in-Stopped.is kept in (
      c.step_stopped-progress.ensures.kept root (g.D.Disk.past c.args.disk.now) was.0,
      was.1,
      c.step_stopped-progress.ensures.cause ∙ was.2,
      c.step_stopped-progress.ensures.exact was.3,
    )

pub returns-in-Stopped-clause-time : goal.returns-in-Stopped-clause-time
returns-in-Stopped-clause-time g c =
    stopped_in_time c.args.s c.args.now (g.D.Disk.past c.args.disk.now).moment c.args.disk.now (state_of c.args.disk.now c.args.core)
    c.in-Stopped.sessions c.step_stopped-progress.new.sessions c.step_stopped-progress.result c.step_stopped-progress.ensures.steps
