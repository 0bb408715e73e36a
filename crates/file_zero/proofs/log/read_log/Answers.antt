use Rattle.std.proofs.Common.{◌≡◌, ℕ, List, length, take, ◌∙◌, subst, arith}
use Rattle.std.specs.Prelude.{is_ok}
use Rattle.std.proofs.lemmas.List.{take_all}
use Rattle.store_api.specs.declared.disk.Area.TheVariants.{Log}
use Rattle.file_zero.specs.Reading.{HasGroups}
use Rattle.store_api.proofs.Looks.{looks_once, looks_twice, stays_goes, stays_join}
use Rattle.file_zero.proofs.Places.{read_into}
use Rattle.file_zero.proofs.log.read_log.Goals as goal

pub returns-in_default-clause-looks : goal.returns-in_default-clause-looks
returns-in_default-clause-looks g c =
    let past = g.D.Disk.past in
    looks_once Log (is_ok c.len.result) (past c.args.disk.now) (past c.len.new.self) c.len.ensures.goes

pub returns-in_default-zeros-clause-looks : goal.returns-in_default-zeros-clause-looks
returns-in_default-zeros-clause-looks g c =
    let past = g.D.Disk.past in
    looks_once Log (is_ok c.len.result) (past c.args.disk.now) (past c.len.new.self) c.len.ensures.goes

pub returns-in_default-read-clause-looks : goal.returns-in_default-read-clause-looks
returns-in_default-read-clause-looks g c =
    let past = g.D.Disk.past in
    looks_twice Log (is_ok c.len.result) (is_ok c.read.result) (past c.args.disk.now) (past c.len.new.self)
    (past c.read.new.self) c.len.ensures.goes c.read.ensures.goes

pub returns-in-Ok-stored_in-clause-looks : goal.returns-in-Ok-stored_in-clause-looks
returns-in-Ok-stored_in-clause-looks g c =
    let past = g.D.Disk.past in
    looks_twice Log (is_ok c.len.result) (is_ok c.read.result) (past c.args.disk.now) (past c.len.new.self)
    (past c.read.new.self) c.len.ensures.goes c.read.ensures.goes

pub returns-in-Ok-stored_in-clause-same : goal.returns-in-Ok-stored_in-clause-same
returns-in-Ok-stored_in-clause-same g c =
    let past = g.D.Disk.past in
    let p0 = past c.args.disk.now in
    let p1 = past c.len.new.self in
    let p2 = past c.read.new.self in
    stays_join p0 p1 p2 (stays_goes Log p0 p1 c.in-Ok.ensures.goes) (stays_goes Log p1 p2 c.in-Ok-read.ensures.goes)

pub returns-in-Ok-stored_in-clause-groups : goal.returns-in-Ok-stored_in-clause-groups
returns-in-Ok-stored_in-clause-groups g c = λ s ticks is.
    let past = g.D.Disk.past in
    let at1 = stays_goes Log (past c.len.new.self) (past c.read.new.self) c.in-Ok-read.ensures.goes s ticks is in
    let at0 = stays_goes Log (past c.args.disk.now) (past c.len.new.self) c.in-Ok.ensures.goes s at1.0 at1.1 in
    let area = c.in-Ok-zeros.area in
    let n = c.in-Ok-read.count in
    let new = c.read.new.into in
    let size : length new ≡ area.len = omega (arith, c.read.auto.into, c.deref_mut.ensures.len) in
    let long : area.len ≡ length s.log.seen = omega (arith, area.ok.0, c.in-Ok-zeros.ensures.len, c.in-Ok.ensures.length s at0.0 at0.1) in
    let read : take n c.deref.result.now ≡ s.log.seen =
    read_into n area.len (length s.log.seen) c.deref.result.now new area.items s.log.seen c.deref.ensures.value size long
    (c.in-Ok-read.ensures.bytes s at1.0 at1.1)
    ∙ take_all (length s.log.seen) s.log.seen (omega arith) in
    let log = c.in-Ok-stored_in.log in
    subst (λ (l : List ℕ). HasGroups c.args.header.run c.args.header.first l log.groups log.block log.rest) read c.in-Ok-stored_in.ensures.groups

pub returns-clause-looks : goal.returns-clause-looks
returns-clause-looks g c =
    let past = g.D.Disk.past in
    looks_twice Log (is_ok c.len.result) (is_ok c.read.result) (past c.args.disk.now) (past c.len.new.self)
    (past c.read.new.self) c.len.ensures.goes c.read.ensures.goes
