use Rattle.std.proofs.lemmas.Result.{IfOk-weaker, IfErr-weaker, on_ok_weaker}
use Rattle.page_recovery.proofs.Kept.{quiet_as, during_repair}
use Rattle.page_recovery.proofs.Brought.{has_all}
use Rattle.page_recovery.proofs.Done.{recovered_then, cause_then, repaired_then, crash_then, same_run}
use Rattle.page_recovery.proofs.recovering.recover.Goals as goal

pub returns-in-Ok-clause-read : goal.returns-in-Ok-clause-read
returns-in-Ok-clause-read g c = λ before still known.
    let past = g.D.Disk.past in
    let p0 = past c.args.disk.now in
    let p1 = past c.repair.new.disk in
    let p2 = past c.read_on.new.disk in
    let quiet = quiet_as before p0 still known in
    IfOk-weaker c.read_on.result _ _
    (λ r since. recovered_then before still p0 p1 known (c.in-Ok.ensures.crash before quiet) p2 (c.in-Ok.ensures.repaired before quiet)
    (λ m s told. g.met.D.Disk.seen_may_be_left c.repair.new.disk m s told) c.read_on.ensures.looks r since) c.read_on.ensures.read

pub returns-in-Ok-clause-refused : goal.returns-in-Ok-clause-refused
returns-in-Ok-clause-refused g c = λ before still known.
    let past = g.D.Disk.past in
    let p0 = past c.args.disk.now in
    let p1 = past c.repair.new.disk in
    let p2 = past c.read_on.new.disk in
    let quiet = quiet_as before p0 still known in
    IfErr-weaker c.read_on.result _ _
    (λ why since. cause_then before still p0 p1 known (c.in-Ok.ensures.crash before quiet) p2 (c.in-Ok.ensures.repaired before quiet)
    (λ m s told. g.met.D.Disk.seen_may_be_left c.repair.new.disk m s told) c.read_on.ensures.looks why since) c.read_on.ensures.refused

pub returns-in-Ok-clause-repaired : goal.returns-in-Ok-clause-repaired
returns-in-Ok-clause-repaired g c = λ before still known.
    let past = g.D.Disk.past in
    let p0 = past c.args.disk.now in
    let p1 = past c.repair.new.disk in
    let quiet = quiet_as before p0 still known in
    on_ok_weaker c.read_on.result
    (λ same. repaired_then before still p0 p1 known (c.in-Ok.ensures.crash before quiet) (past c.read_on.new.disk) (c.in-Ok.ensures.repaired before quiet) same)
    c.read_on.ensures.same

pub returns-in-Ok-clause-done : goal.returns-in-Ok-clause-done
returns-in-Ok-clause-done g c = λ capacity run first flushed groups base before is leaves still known.
    IfOk-weaker c.read_on.result _ _ (λ r rec. λ s ticks told. has_all capacity run first flushed groups base before is still leaves r (rec s ticks told))
    (returns-in-Ok-clause-read g c before still known)

pub returns-in-Ok-clause-crash : goal.returns-in-Ok-clause-crash
returns-in-Ok-clause-crash g c = λ before still known.
    let past = g.D.Disk.past in
    let p0 = past c.args.disk.now in
    crash_then before still p0 (past c.repair.new.disk) known (c.in-Ok.ensures.crash before (quiet_as before p0 still known)) (past c.read_on.new.disk)
    c.read_on.ensures.looks

pub returns-in-Ok-clause-same : goal.returns-in-Ok-clause-same
returns-in-Ok-clause-same g c = λ run first flushed groups base before leaves still known.
    let past = g.D.Disk.past in
    same_run before still run first flushed groups base (past c.args.disk.now) (past c.read_on.new.disk) leaves
    (returns-in-Ok-clause-crash g c before still known)

pub returns-in-Err-clause-crash : goal.returns-in-Err-clause-crash
returns-in-Err-clause-crash g c = λ before still known.
    let past = g.D.Disk.past in
    let p0 = past c.args.disk.now in
    during_repair before p0 (past c.repair.new.disk) (c.in-Err.ensures.crash before (quiet_as before p0 still known))

pub returns-in-Err-clause-same : goal.returns-in-Err-clause-same
returns-in-Err-clause-same g c = λ run first flushed groups base before leaves still known.
    let past = g.D.Disk.past in
    same_run before still run first flushed groups base (past c.args.disk.now) (past c.repair.new.disk) leaves
    (returns-in-Err-clause-crash g c before still known)
