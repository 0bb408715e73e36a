use Rattle.std.proofs.Common.{◌∙◌, subst, sym}
use Rattle.durable_engine.specs.State.{IsKept}
use Rattle.durable_engine.proofs.engine.DurableEngine.start.Goals.{in-Running, in-Stopped}
use Rattle.durable_engine.proofs.engine.DurableEngine.start.Goals as goal

pub invariant_of-self : goal.invariant_of-self
invariant_of-self g c =
    let root = g.R.Root.root in
    let now = g.D.Disk.past c.self.inside.disk in
    elim c.match-self.branch [
      | in-Running w ↦
          (let was = subst (λ core. IsKept root now core) w.in-Running.is c.self.invariant in
          subst (λ e. IsKept root (g.D.Disk.past e.disk) e.core) (sym w.self-inside-is) (w.start.ensures.kept root now was.0, was.1))
      | in-Stopped w ↦
          (let was = subst (λ core. IsKept root now core) w.in-Stopped.is c.self.invariant in
          subst (λ e. IsKept root (g.D.Disk.past e.disk) e.core) (sym w.self-inside-is)
          (w.start_stopped.ensures.kept root now was.0, was.1, w.start_stopped.ensures.cause ∙ was.2, w.start_stopped.ensures.exact was.3))
    ]
