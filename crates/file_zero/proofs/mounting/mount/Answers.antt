use Rattle.file_zero.proofs.Kept.{looks_leave, leaves_after, header_after, pages_after, held_after, mounted_after}
use Rattle.file_zero.proofs.Refusals.{left_by_looks, left_by_failure}
use Rattle.file_zero.proofs.mounting.mount.Goals as goal

pub returns-in_err-mounted-clause-crash : goal.returns-in_err-mounted-clause-crash
returns-in_err-mounted-clause-crash g c =
    let past = g.D.Disk.past in
    let law = g.met.D.Disk.seen_may_be_left in
    let p0 = past c.args.disk.now in
    let p1 = past c.read_files.new.disk in
    looks_leave p0 p1 (law c.args.disk.now) (law c.read_files.new.disk) c.read_files.ensures.looks

pub returns-in-Ok-clause-mounted : goal.returns-in-Ok-clause-mounted
returns-in-Ok-clause-mounted g c =
    let past = g.D.Disk.past in
    let law = g.met.D.Disk.seen_may_be_left in
    let p0 = past c.args.disk.now in
    let p1 = past c.read_files.new.disk in
    mounted_after p0 p1 (law c.args.disk.now) (law c.read_files.new.disk) c.read_files.ensures.looks _ _ _ _ _ c.in_ok-mounted.ensures.found
    (past c.clear_rest.new.disk) c.in-Ok.ensures.crash c.in-Ok.ensures.begun

pub returns-in-Ok-clause-header : goal.returns-in-Ok-clause-header
returns-in-Ok-clause-header g c =
    let past = g.D.Disk.past in
    let law = g.met.D.Disk.seen_may_be_left in
    let p0 = past c.args.disk.now in
    let p1 = past c.read_files.new.disk in
    header_after p0 p1 (law c.args.disk.now) (law c.read_files.new.disk) c.read_files.ensures.looks _ _ _ _ _ c.in_ok-mounted.ensures.found
    (past c.clear_rest.new.disk) c.in-Ok.ensures.crash c.in-Ok.ensures.begun

pub returns-in-Ok-clause-crash : goal.returns-in-Ok-clause-crash
returns-in-Ok-clause-crash g c =
    let past = g.D.Disk.past in
    let law = g.met.D.Disk.seen_may_be_left in
    let p0 = past c.args.disk.now in
    let p1 = past c.read_files.new.disk in
    leaves_after p0 p1 (law c.args.disk.now) (law c.read_files.new.disk) c.read_files.ensures.looks _ _ _ _ _ c.in_ok-mounted.ensures.found
    (past c.clear_rest.new.disk) c.in-Ok.ensures.crash

pub returns-in-Err-clause-crash : goal.returns-in-Err-clause-crash
returns-in-Err-clause-crash g c =
    let past = g.D.Disk.past in
    let law = g.met.D.Disk.seen_may_be_left in
    let p0 = past c.args.disk.now in
    let p1 = past c.read_files.new.disk in
    leaves_after p0 p1 (law c.args.disk.now) (law c.read_files.new.disk) c.read_files.ensures.looks _ _ _ _ _ c.in_ok-mounted.ensures.found
    (past c.clear_rest.new.disk) c.in-Err.ensures.crash

pub returns-in-Ok-clause-same : goal.returns-in-Ok-clause-same
returns-in-Ok-clause-same g c =
    let past = g.D.Disk.past in
    let law = g.met.D.Disk.seen_may_be_left in
    let p0 = past c.args.disk.now in
    let p1 = past c.read_files.new.disk in
    pages_after p0 p1 (law c.args.disk.now) (law c.read_files.new.disk) c.read_files.ensures.looks _ _ _ _ _ c.in_ok-mounted.ensures.found
    (past c.clear_rest.new.disk) c.in-Ok.ensures.crash c.in-Ok.ensures.begun c.in_ok-mounted.ensures.same

pub returns-in_err-mounted-clause-left : goal.returns-in_err-mounted-clause-left
returns-in_err-mounted-clause-left g c =
    left_by_looks (g.D.Disk.past c.args.disk.now) (g.D.Disk.past c.read_files.new.disk) _ c.read_files.ensures.looks

pub returns-in-Err-clause-left : goal.returns-in-Err-clause-left
returns-in-Err-clause-left g c =
    left_by_failure (g.D.Disk.past c.args.disk.now) (g.D.Disk.past c.clear_rest.new.disk) c.in-Err.why c.in-Err.ensures.failed

pub returns-in-Ok-clause-held : goal.returns-in-Ok-clause-held
returns-in-Ok-clause-held g c =
    let past = g.D.Disk.past in
    let law = g.met.D.Disk.seen_may_be_left in
    let p0 = past c.args.disk.now in
    let p1 = past c.read_files.new.disk in
    held_after p0 p1 (law c.args.disk.now) (law c.read_files.new.disk) c.read_files.ensures.looks _ _ _ _ _ c.in_ok-mounted.ensures.found
    (past c.clear_rest.new.disk) c.in-Ok.ensures.crash c.in-Ok.ensures.begun c.in_ok-mounted.ensures.same
