use Rattle.std.proofs.Common.{◌≡◌, ◌<◌, Option, Some, None, Result, Ok, Err, OnOk, sym, ap, subst, arith}
use Rattle.inno_types.specs.Order.{IsBelow}
use Rattle.store_api.specs.Past.{Now}
use Rattle.store_api.proofs.Moments.{Meanwhile-weaker}
use Rattle.doublewrite.specs.Batches.{StagedView}
use Rattle.law_logged_pages.specs.Keeping.{Keeps}
use Rattle.flusher.specs.Cleaning.{to_go}
use Rattle.flusher.specs.Flushing.{HoldsRun, KeepsSince, AreInPlace, whole_or}
use Rattle.flusher.specs.Working.{IsWork, staged_of, GoesOn, AreChanged}
use Rattle.flusher.proofs.Going.{begun_nears, placed_nears}
use Rattle.flusher.proofs.Runs.{none_home}
use Rattle.flusher.proofs.Homes.{kept_leads}
use Rattle.flusher.proofs.work.step_of.Goals as goal

on_any : {X E : Type 0} (P : Type 0) (r : Result X E) → P → OnOk r P
on_any P (Ok x) p = p
on_any P (Err e) p = tt

pub returns-in-Free-clause-nears : goal.returns-in-Free-clause-nears
returns-in-Free-clause-nears g c = λ did.
    let none : staged_of c.args.work ≡ None = ap staged_of c.in-Free.is in
    let new = staged_of c.gather_and_begin.result.0 in
    subst (λ (w : Option StagedView). IsBelow (to_go new c.args.pool.now) (to_go w c.args.pool.now)) (sym none)
    (begun_nears c.args.pool.now new (c.gather_and_begin.ensures.did did))

pub returns-in-Free-clause-stands : goal.returns-in-Free-clause-stands
returns-in-Free-clause-stands g c = λ first groups base newest ready held.
    let none : staged_of c.args.work ≡ None = ap staged_of c.in-Free.is in
    c.gather_and_begin.ensures.stands first groups base newest ready
    (subst (λ (w : Option StagedView). Now (HoldsRun first groups base w c.args.log.now) (g.D.Disk.past c.args.disk.now)) none held)

pub returns-in-Free-clause-crash : goal.returns-in-Free-clause-crash
returns-in-Free-clause-crash g c = λ first groups base newest ready held.
    let none : staged_of c.args.work ≡ None = ap staged_of c.in-Free.is in
    c.gather_and_begin.ensures.crash first groups base newest ready
    (subst (λ (w : Option StagedView). Now (HoldsRun first groups base w c.args.log.now) (g.D.Disk.past c.args.disk.now)) none held)

pub returns-in-Placing-clause-nears : goal.returns-in-Placing-clause-nears
returns-in-Placing-clause-nears g c = λ did.
    let staged = c.in-Placing.staged in
    let some : staged_of c.args.work ≡ Some staged = ap staged_of c.in-Placing.is in
    let new = staged_of c.go_on.result.0 in
    let within : staged.placed < staged.batch.count = subst IsWork c.in-Placing.is c.requires in
    let goes : GoesOn staged new = (rw did at c.go_on.ensures.ok).1 in
    subst (λ (w : Option StagedView). IsBelow (to_go new c.go_on.new.pool) (to_go w c.args.pool.now)) (sym some)
    (placed_nears staged new c.args.pool.now c.go_on.new.pool within goes c.go_on.ensures.pool)

pub returns-in-Placing-clause-in_place : goal.returns-in-Placing-clause-in_place
returns-in-Placing-clause-in_place g c = λ held.
    let some : staged_of c.args.work ≡ Some c.in-Placing.staged = ap staged_of c.in-Placing.is in
    let new = staged_of c.go_on.result.0 in
    subst (λ (w : Option StagedView). Now (AreInPlace (whole_or w new)) (g.D.Disk.past c.go_on.new.disk)) (sym some)
    (c.go_on.ensures.in_place (subst (λ (w : Option StagedView). Now (AreInPlace w) (g.D.Disk.past c.args.disk.now)) some held))

pub returns-in-Placing-clause-stands : goal.returns-in-Placing-clause-stands
returns-in-Placing-clause-stands g c = λ first groups base newest ready held.
    let some : staged_of c.args.work ≡ Some c.in-Placing.staged = ap staged_of c.in-Placing.is in
    let there = subst (λ (w : Option StagedView). Now (HoldsRun first groups base w c.args.log.now) (g.D.Disk.past c.args.disk.now)) some held in
    on_any (Now (HoldsRun first groups base (staged_of c.go_on.result.0) c.args.log.now) (g.D.Disk.past c.go_on.new.disk)) c.go_on.result.1
    (c.go_on.ensures.stands first groups base c.args.log.now ready there)

pub returns-in-Placing-clause-crash : goal.returns-in-Placing-clause-crash
returns-in-Placing-clause-crash g c = λ first groups base newest ready held.
    let log = c.args.log.now in
    let some : staged_of c.args.work ≡ Some c.in-Placing.staged = ap staged_of c.in-Placing.is in
    let there = subst (λ (w : Option StagedView). Now (HoldsRun first groups base w log) (g.D.Disk.past c.args.disk.now)) some held in
    Meanwhile-weaker (Keeps log.run first log.flushed groups base) (KeepsSince log.run first log.flushed groups base)
    (g.D.Disk.past c.args.disk.now) (g.D.Disk.past c.go_on.new.disk)
    (c.go_on.ensures.crash first groups base log ready there)
    (λ s keeps. record { now = log.flushed; later = omega arith; keeps = keeps })

pub returns-in-Free-clause-home : goal.returns-in-Free-clause-home
returns-in-Free-clause-home g c = λ first groups base newest ready held. none_home c.args.pool.now (g.D.Disk.past c.gather_and_begin.new.disk)

pub returns-in-Placing-clause-home : goal.returns-in-Placing-clause-home
returns-in-Placing-clause-home g c = λ first groups base newest ready held.
    let some : staged_of c.args.work ≡ Some c.in-Placing.staged = ap staged_of c.in-Placing.is in
    let there = subst (λ (w : Option StagedView). Now (HoldsRun first groups base w c.args.log.now) (g.D.Disk.past c.args.disk.now)) some held in
    c.go_on.ensures.home first groups base c.args.log.now newest ready there

pub returns-in-Free-clause-kept : goal.returns-in-Free-clause-kept
returns-in-Free-clause-kept g c = λ first groups base newest ready changed held kept.
    kept_leads groups base c.args.pool.now (g.D.Disk.past c.args.disk.now) (g.D.Disk.past c.gather_and_begin.new.disk) c.gather_and_begin.ensures.reads kept

pub returns-in-Placing-clause-kept : goal.returns-in-Placing-clause-kept
returns-in-Placing-clause-kept g c = λ first groups base newest ready changed held kept.
    let some : staged_of c.args.work ≡ Some c.in-Placing.staged = ap staged_of c.in-Placing.is in
    let there = subst (λ (w : Option StagedView). Now (HoldsRun first groups base w c.args.log.now) (g.D.Disk.past c.args.disk.now)) some held in
    let under_way = subst (λ (w : Option StagedView). AreChanged w c.args.pool.now) some changed in
    c.go_on.ensures.kept first groups base c.args.log.now newest ready under_way there kept
