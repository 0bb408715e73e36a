use Rattle.std.proofs.Common.{sym, subst}
use Rattle.std.specs.Prelude.{◌&&◌, OnOk}
use Rattle.mtr.specs.Calls.{Looks}
use Rattle.mini_txn.specs.Dealt.{pages_of}
use Rattle.paged_txn.specs.UnderWay.{IsFlushed}
use Rattle.paged_txn.specs.View.{is_known, state_of, IsPaged}
use Rattle.paged_txn.proofs.Batched.{changed_in}
use Rattle.paged_txn.proofs.Flushed.{stepped_paged, stepped_looks, stepped_flushed}
use Rattle.paged_txn.proofs.work.Work.flush_step.Goals as goal

pub invariant_of-self : goal.invariant_of-self
invariant_of-self g c =
    let m = c.args.self.now in
    let step = c.step-worked in
    let past = g.D.Disk.past m.disk in
    let now = g.D.Disk.past step.new.disk in
    let changed = step.ensures.under_way (changed_in (is_known m.told past) m.pool m.log past m.flusher m.is_flushed) in
    record {
      is_paged = subst (λ b. IsPaged step.new.pool now m.dealt m.edits (m.told && b)) (sym c.is_ok.ensures.value)
          (stepped_paged step.result m.pool step.new.pool past now m.told m.log step.new.log m.flusher step.new.self m.is_flushed step.ensures.pages
          step.ensures.settles step.ensures.log step.ensures.reads step.ensures.advances
          (λ idle. ((step.ensures.idle.0 idle).none, (step.ensures.rests idle).0)) m.dealt m.edits m.is_paged);
      is_flushed = subst (λ b. IsFlushed (is_known (m.told && b) now) step.new.pool step.new.log now step.new.self) (sym c.is_ok.ensures.value)
          (stepped_flushed step.result m.pool step.new.pool past now m.told m.log step.new.log m.flusher step.new.self m.is_flushed step.ensures.pages
          step.ensures.settles step.ensures.log step.ensures.reads step.ensures.advances
          (λ idle. ((step.ensures.idle.0 idle).none, (step.ensures.rests idle).0)) changed);
    }

pub returns-clause-looks : goal.returns-clause-looks
returns-clause-looks g c =
    let m = c.args.self.now in
    let step = c.step-worked in
    let past = g.D.Disk.past m.disk in
    let now = g.D.Disk.past step.new.disk in
    subst (λ b. OnOk step.result (Looks (pages_of m.dealt) (state_of m.pool past m.dealt m.edits m.told)
    (state_of step.new.pool now m.dealt m.edits (m.told && b)))) (sym c.is_ok.ensures.value)
    (stepped_looks step.result m.pool step.new.pool past now m.told m.log step.new.log m.flusher step.new.self m.is_flushed step.ensures.pages
    step.ensures.settles step.ensures.log step.ensures.reads step.ensures.advances
    (λ idle. ((step.ensures.idle.0 idle).none, (step.ensures.rests idle).0)) m.dealt m.edits m.is_paged step.ensures.cause.later)

pub returns-clause-kept : goal.returns-clause-kept
returns-clause-kept g c = λ first groups base newest ready held kept.
    let m = c.args.self.now in
    let past = g.D.Disk.past m.disk in
    c.step-worked.ensures.kept first groups base newest ready (changed_in (is_known m.told past) m.pool m.log past m.flusher m.is_flushed) held kept
