use Rattle.std.proofs.Common.{◌≡◌, Option, sym, ◌∙◌, ap, subst}
use Rattle.store_api.specs.Past.{Now}
use Rattle.doublewrite.specs.Batches.{StagedView}
use Rattle.flusher.specs.Flushing.{HoldsRun}
use Rattle.flusher.specs.Working.{staged_of, AreChanged}
use Rattle.flusher.proofs.flusher.Flusher.step.Goals as goal

pub returns-clause-stands : goal.returns-clause-stands
returns-clause-stands g c = λ first groups base newest ready held.
    let same : staged_of c.replace-work.result ≡ c.args.self.now = ap staged_of c.replace-work.ensures.value ∙ c.self.view_is in
    c.step_of-work.ensures.stands first groups base newest ready
    (subst (λ (w : Option StagedView). Now (HoldsRun first groups base w c.args.log.now) (g.D.Disk.past c.args.disk.now)) (sym same) held)

pub returns-clause-crash : goal.returns-clause-crash
returns-clause-crash g c = λ first groups base newest ready held.
    let same : staged_of c.replace-work.result ≡ c.args.self.now = ap staged_of c.replace-work.ensures.value ∙ c.self.view_is in
    c.step_of-work.ensures.crash first groups base newest ready
    (subst (λ (w : Option StagedView). Now (HoldsRun first groups base w c.args.log.now) (g.D.Disk.past c.args.disk.now)) (sym same) held)

pub returns-clause-home : goal.returns-clause-home
returns-clause-home g c = λ first groups base newest ready held.
    let same : staged_of c.replace-work.result ≡ c.args.self.now = ap staged_of c.replace-work.ensures.value ∙ c.self.view_is in
    c.step_of-work.ensures.home first groups base newest ready
    (subst (λ (w : Option StagedView). Now (HoldsRun first groups base w c.args.log.now) (g.D.Disk.past c.args.disk.now)) (sym same) held)

pub returns-clause-kept : goal.returns-clause-kept
returns-clause-kept g c = λ first groups base newest ready changed held kept.
    let same : staged_of c.replace-work.result ≡ c.args.self.now = ap staged_of c.replace-work.ensures.value ∙ c.self.view_is in
    c.step_of-work.ensures.kept first groups base newest ready (subst (λ (w : Option StagedView). AreChanged w c.args.pool.now) (sym same) changed)
    (subst (λ (w : Option StagedView). Now (HoldsRun first groups base w c.args.log.now) (g.D.Disk.past c.args.disk.now)) (sym same) held) kept
