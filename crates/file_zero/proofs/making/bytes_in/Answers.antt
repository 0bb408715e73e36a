use Rattle.std.proofs.Common.{arith}
use Rattle.std.specs.Prelude.{is_ok}
use Rattle.store_api.specs.declared.disk.Area.TheVariants.{Log, Double, Pages}
use Rattle.store_api.proofs.Looks.{looks_none, looks_goes, stays_goes, stays_join}
use Rattle.file_zero.proofs.making.bytes_in.Goals as goal

pub returns-in_default-clause-looks : goal.returns-in_default-clause-looks
returns-in_default-clause-looks g c =
    let past = g.D.Disk.past in
    looks_goes Log (is_ok c.len.result) (past c.args.disk.now) (past c.args.disk.now) (past c.len.new.self)
    (looks_none (past c.args.disk.now)) c.len.ensures.goes

pub returns-in_default-len-clause-looks : goal.returns-in_default-len-clause-looks
returns-in_default-len-clause-looks g c =
    let past = g.D.Disk.past in
    let p0 = past c.args.disk.now in
    let one = looks_goes Log (is_ok c.len.result) p0 p0 (past c.len.new.self) (looks_none p0) c.len.ensures.goes in
    looks_goes Double (is_ok c.len-2.result) p0 (past c.len.new.self) (past c.len-2.new.self) one c.len-2.ensures.goes

pub returns-in_default-len-2-clause-looks : goal.returns-in_default-len-2-clause-looks
returns-in_default-len-2-clause-looks g c =
    let past = g.D.Disk.past in
    let p0 = past c.args.disk.now in
    let one = looks_goes Log (is_ok c.len.result) p0 p0 (past c.len.new.self) (looks_none p0) c.len.ensures.goes in
    let two = looks_goes Double (is_ok c.len-2.result) p0 (past c.len.new.self) (past c.len-2.new.self) one c.len-2.ensures.goes in
    looks_goes Pages (is_ok c.len-3.result) p0 (past c.len-2.new.self) (past c.len-3.new.self) two c.len-3.ensures.goes

pub returns-clause-looks : goal.returns-clause-looks
returns-clause-looks g c =
    let past = g.D.Disk.past in
    let p0 = past c.args.disk.now in
    let one = looks_goes Log (is_ok c.len.result) p0 p0 (past c.len.new.self) (looks_none p0) c.len.ensures.goes in
    let two = looks_goes Double (is_ok c.len-2.result) p0 (past c.len.new.self) (past c.len-2.new.self) one c.len-2.ensures.goes in
    looks_goes Pages (is_ok c.len-3.result) p0 (past c.len-2.new.self) (past c.len-3.new.self) two c.len-3.ensures.goes

pub returns-clause-same : goal.returns-clause-same
returns-clause-same g c =
    let past = g.D.Disk.past in
    let p1 = past c.len.new.self in
    let p2 = past c.len-2.new.self in
    let p3 = past c.len-3.new.self in
    stays_join (past c.args.disk.now) p1 p3 (stays_goes Log (past c.args.disk.now) p1 c.in-Ok.ensures.goes)
    (stays_join p1 p2 p3 (stays_goes Double p1 p2 c.in-Ok-len.ensures.goes) (stays_goes Pages p2 p3 c.in-Ok-len-2.ensures.goes))

pub returns-clause-bytes : goal.returns-clause-bytes
returns-clause-bytes g c = λ s ticks is.
    let past = g.D.Disk.past in
    let p0 = past c.args.disk.now in
    let p1 = past c.len.new.self in
    let p2 = past c.len-2.new.self in
    let p3 = past c.len-3.new.self in
    let at2 = stays_goes Pages p2 p3 c.in-Ok-len-2.ensures.goes s ticks is in
    let at1 = stays_goes Double p1 p2 c.in-Ok-len.ensures.goes s at2.0 at2.1 in
    let at0 = stays_goes Log p0 p1 c.in-Ok.ensures.goes s at1.0 at1.1 in
    let log = c.in-Ok.ensures.length s at0.0 at0.1 in
    let double = c.in-Ok-len.ensures.length s at1.0 at1.1 in
    let pages = c.in-Ok-len-2.ensures.length s at2.0 at2.1 in
    omega (arith, log, double, pages, c.saturating_add.ensures, c.saturating_add-2.ensures)
