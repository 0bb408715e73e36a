use Rattle.std.proofs.Common.{◌∙◌, refl, sym, ap, subst, arith}
use Rattle.law_crashes.specs.Since.{KeepsSince}
use Rattle.durable_engine.specs.State.{IsKept, state_of}
use Rattle.durable_engine.specs.Whole.{HoldsAll}
use Rattle.durable_engine.proofs.Whole.{holds_all}
use Rattle.durable_engine.proofs.engine.DurableEngine.close.Goals as goal

pub returns-in-Ok-clause-crash : goal.returns-in-Ok-clause-crash
returns-in-Ok-clause-crash g c =
    let root = g.R.Root.root in
    let was = subst (λ core. IsKept root (g.D.Disk.past c.self.inside.disk) core) c.in-Running.is c.self.invariant in
    let past_is = ap (λ x. x.lists.past) c.flush-flushed.ensures.same
    ∙ (ap (λ core. (state_of c.self.inside.disk core).past) (sym c.in-Running.is) ∙ ap (λ st. st.past) c.self.view_is) in
    subst (KeepsSince root (g.D.Disk.past c.flush-flushed.new.disk)) past_is (c.flush-flushed.ensures.kept root was.0).durable.keeps

pub returns-in-Err-clause-failed : goal.returns-in-Err-clause-failed
returns-in-Err-clause-failed g c =
    let root = g.R.Root.root in
    let was = subst (λ core. IsKept root (g.D.Disk.past c.self.inside.disk) core) c.in-Running.is c.self.invariant in
    (refl, omega (arith, was.1, c.in-Err.ensures.cause.failed))

pub returns-in-Err-clause-crash : goal.returns-in-Err-clause-crash
returns-in-Err-clause-crash g c =
    let root = g.R.Root.root in
    let was = subst (λ core. IsKept root (g.D.Disk.past c.self.inside.disk) core) c.in-Running.is c.self.invariant in
    let past_is = ap (λ x. x.lists.past) c.flush-flushed.ensures.same
    ∙ (ap (λ core. (state_of c.self.inside.disk core).past) (sym c.in-Running.is) ∙ ap (λ st. st.past) c.self.view_is) in
    subst (KeepsSince root (g.D.Disk.past c.flush-flushed.new.disk)) past_is (c.flush-flushed.ensures.kept root was.0).durable.keeps

pub returns-in-Ok-clause-whole : goal.returns-in-Ok-clause-whole
returns-in-Ok-clause-whole g c =
    let root = g.R.Root.root in
    let was = subst (λ core. IsKept root (g.D.Disk.past c.self.inside.disk) core) c.in-Running.is c.self.invariant in
    let past_is = ap (λ core. (state_of c.self.inside.disk core).past) (sym c.in-Running.is) ∙ ap (λ st. st.past) c.self.view_is in
    subst (HoldsAll root (g.D.Disk.past c.flush-flushed.new.disk)) past_is
    (holds_all root (g.D.Disk.past c.flush-flushed.new.disk) c.in-Running.sessions.sessions.lists.past (c.in-Ok.ensures.whole root _ was.0).durable.keeps)
