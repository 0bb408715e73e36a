use Rattle.std.proofs.Common.{◌≡◌, false, subst, sym, ap, ◌∙◌, arith}
use Rattle.std.proofs.lemmas.Grind.{common_steps}
use Rattle.std.specs.Option.{IfSome}
use Rattle.session_engine.specs.Seats.{seat_at, owes}
use Rattle.session_engine.specs.Calls.{GivesUpInVain}
use Rattle.durable_engine.specs.State.{IsKept, state_of, running_state}
use Rattle.durable_engine.specs.Calls.{StepsBy, KeepsTime}
use Rattle.durable_engine.proofs.Keeping.{ran_on, ran_in_time, same_disk}
use Rattle.durable_engine.proofs.engine.DurableEngine.step.Goals as goal
use Rattle.durable_engine.proofs.engine.DurableEngine.step.Goals.{in_default-via-in-Stopped-1, in_default-via-in-Running+else-not-owes_ack}

pub invariant_of-self : goal.invariant_of-self
invariant_of-self g c =
    let was = subst (λ core. IsKept g.R.Root.root (g.D.Disk.past c.self.inside.disk) core) c.in-Running.is c.self.invariant in
    (c.step.ensures.kept g.R.Root.root (g.D.Disk.past c.self.inside.disk) was.0, was.1)

pub returns-clause-steps : goal.returns-clause-steps
returns-clause-steps g c =
    subst (λ st. StepsBy c.args.s c.step.result st (running_state c.self.inside.disk c.step.new.self))
    (ap (state_of c.self.inside.disk) (sym c.in-Running.is) ∙ c.self.view_is)
    (ran_on c.self.inside.disk c.args.s c.in-Running.sessions c.step.new.self c.step.ensures.was c.step.ensures.phase c.step.ensures.others
    c.step.result c.step.ensures.steps)

pub step_of-core-requires-clause-kept : goal.step_of-core-requires-clause-kept
step_of-core-requires-clause-kept g c =
    let same : c.in_default.self-inside ≡ c.self.inside = elim c.in_default.branch [
      | in_default-via-in-Stopped-1 w ↦ w.self-inside-is
      | in_default-via-in-Running+else-not-owes_ack w ↦
          w.self-inside-is ∙ ap (λ core. record { disk = c.self.inside.disk; core = core; root = c.self.inside.root }) (sym w.in-Running.is)
    ] in (
      g.R.Root.root,
      subst (λ core. IsKept g.R.Root.root (g.D.Disk.past c.in_default.self-inside.disk) core) (sym c.replace-core.ensures.value)
          (subst (λ inside. IsKept g.R.Root.root (g.D.Disk.past inside.disk) inside.core) (sym same) c.self.invariant),
    )

pub invariant_of-self-2 : goal.invariant_of-self-2
invariant_of-self-2 g c =
    let same : c.in_default.self-inside ≡ c.self.inside = elim c.in_default.branch [
      | in_default-via-in-Stopped-1 w ↦ w.self-inside-is
      | in_default-via-in-Running+else-not-owes_ack w ↦
          w.self-inside-is ∙ ap (λ core. record { disk = c.self.inside.disk; core = core; root = c.self.inside.root }) (sym w.in-Running.is)
    ] in
    c.step_of-core.ensures.kept g.R.Root.root
    (subst (λ core. IsKept g.R.Root.root (g.D.Disk.past c.in_default.self-inside.disk) core) (sym c.replace-core.ensures.value)
    (subst (λ inside. IsKept g.R.Root.root (g.D.Disk.past inside.disk) inside.core) (sym same) c.self.invariant))

pub returns-2-clause-waited : goal.returns-2-clause-waited
returns-2-clause-waited g c =
    let same : c.in_default.self-inside ≡ c.self.inside = elim c.in_default.branch [
      | in_default-via-in-Stopped-1 w ↦ w.self-inside-is
      | in_default-via-in-Running+else-not-owes_ack w ↦
          w.self-inside-is ∙ ap (λ core. record { disk = c.self.inside.disk; core = core; root = c.self.inside.root }) (sym w.in-Running.is)
    ] in
    subst (λ st. IfSome st.running (GivesUpInVain c.args.s c.args.now c.step_of-core.result.1))
    (ap (state_of c.in_default.self-inside.disk) c.replace-core.ensures.value ∙ ap (λ inside. state_of inside.disk inside.core) same ∙ c.self.view_is)
    c.step_of-core.ensures.waited

-- ---- the moments that it goes by

pub returns-clause-time : goal.returns-clause-time
returns-clause-time g c =
    let now = c.args.now in
    let moment = (g.D.Disk.past c.self.inside.disk).moment in
    let unowed : owes (seat_at c.in-Running.sessions.sessions.seats c.args.s) ≡ false = grind (arith, common_steps) in
    subst (λ st. KeepsTime c.args.s now moment c.step.result st (running_state c.self.inside.disk c.step.new.self))
    (ap (state_of c.self.inside.disk) (sym c.in-Running.is) ∙ c.self.view_is)
    (ran_in_time c.self.inside.disk c.args.s now moment c.in-Running.sessions c.step.new.self c.step.result c.step.ensures.steps
    c.step.ensures.since c.step.ensures.waits c.step.ensures.long unowed)

pub returns-2-clause-time : goal.returns-2-clause-time
returns-2-clause-time g c =
    let same : c.in_default.self-inside ≡ c.self.inside = elim c.in_default.branch [
      | in_default-via-in-Stopped-1 w ↦ w.self-inside-is
      | in_default-via-in-Running+else-not-owes_ack w ↦
          w.self-inside-is ∙ ap (λ core. record { disk = c.self.inside.disk; core = core; root = c.self.inside.root }) (sym w.in-Running.is)
    ] in
    let new = state_of c.step_of-core.new.disk c.step_of-core.result.0 in
    subst (λ disk. KeepsTime c.args.s c.args.now (g.D.Disk.past disk).moment c.step_of-core.result.1 c.args.self.now new)
    (sym (same_disk c.step_of-core.new.disk c.step_of-core.result.0))
    (subst (λ st. KeepsTime c.args.s c.args.now (g.D.Disk.past c.step_of-core.new.disk).moment c.step_of-core.result.1 st new)
    (ap (state_of c.in_default.self-inside.disk) c.replace-core.ensures.value ∙ ap (λ inside. state_of inside.disk inside.core) same ∙ c.self.view_is)
    c.step_of-core.ensures.time)
