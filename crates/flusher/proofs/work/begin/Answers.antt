use Rattle.std.proofs.Common.{Option, Result, Ok, Err, OnOk, sym, subst}
use Rattle.store_api.specs.Areas.{State}
use Rattle.store_api.specs.Past.{Now}
use Rattle.store_api.proofs.Moments.{Meanwhile-join}
use Rattle.doublewrite.specs.Batches.{StagedView}
use Rattle.doublewrite.specs.Kept.{IsReadyAs, IsStagedHonestly}
use Rattle.flusher.specs.Flushing.{HoldsRun, KeepsSince}
use Rattle.flusher.proofs.Runs.{flushed_run, flush_crash, staged_run, stage_crash}
use Rattle.flusher.proofs.Afterwards.{leads_join}
use Rattle.flusher.proofs.work.begin.Goals as goal

on_ok_by : {X E : Type 0} (r : Result X E) (A B : State → Type 0) (C D : Type 0) → OnOk r C → ((x : State) → A x → OnOk r (B x)) →
    (C → ((x : State) → A x → B x) → D)
    → OnOk r D
on_ok_by (Ok x) A B C D known each gives = gives known each
on_ok_by (Err e) A B C D known each gives = tt

pub returns-in-Err-clause-crash : goal.returns-in-Err-clause-crash
returns-in-Err-clause-crash g c = λ first groups base newest ready held.
    flush_crash first groups base c.args.log.now (g.D.Disk.past c.args.disk.now) (g.D.Disk.past c.flush_for.new.disk) ready held
    (c.flush_for.ensures.crash first groups)

pub returns-in-Ok-clause-stands : goal.returns-in-Ok-clause-stands
returns-in-Ok-clause-stands g c = λ first groups base newest ready held.
    let flushed = c.flush_for.new.log in
    let old = g.D.Disk.past c.args.disk.now in
    let mid = g.D.Disk.past c.flush_for.new.disk in
    let new = g.D.Disk.past c.copy_all.new.disk in
    let keeps = c.flush_for.ensures.log in
    let run = flushed_run first groups base c.args.log.now old mid ready held flushed keeps.flushed (c.flush_for.ensures.stands first groups) in
    on_ok_by c.copy_all.result.1 (λ x. Now (IsReadyAs x) mid)
    (λ x. Now (IsStagedHonestly x c.args.batch) new) _ _ c.copy_all.ensures.ok c.copy_all.ensures.stands
    (λ known stands.
    subst (λ (w : Option StagedView). Now (HoldsRun first groups base w flushed) new) (sym known.1)
    (staged_run first groups base flushed c.args.batch mid new run newest c.in-Ok.ensures.logged c.requires stands))

pub returns-in-Ok-clause-crash : goal.returns-in-Ok-clause-crash
returns-in-Ok-clause-crash g c = λ first groups base newest ready held.
    let log = c.args.log.now in
    let flushed = c.flush_for.new.log in
    let old = g.D.Disk.past c.args.disk.now in
    let mid = g.D.Disk.past c.flush_for.new.disk in
    let new = g.D.Disk.past c.copy_all.new.disk in
    let keeps = c.flush_for.ensures.log in
    let run = flushed_run first groups base log old mid ready held flushed keeps.flushed (c.flush_for.ensures.stands first groups) in
    Meanwhile-join (KeepsSince log.run first log.flushed groups base) old mid new
    (flush_crash first groups base log old mid ready held (c.flush_for.ensures.crash first groups))
    (stage_crash first groups base flushed c.args.batch mid new run newest c.in-Ok.ensures.logged log.run log.flushed keeps.run keeps.flushed
    c.copy_all.ensures.crash)

pub returns-in-Ok-clause-reads : goal.returns-in-Ok-clause-reads
returns-in-Ok-clause-reads g c = leads_join _ _ _ c.flush_for.ensures.reads c.copy_all.ensures.reads
