use Rattle.std.proofs.Common.{◌≡◌, length, take, arith}
use Rattle.std.specs.Prelude.{is_ok}
use Rattle.std.proofs.lemmas.Result.{IfOk-weaker, IfErr-weaker}
use Rattle.store_api.specs.declared.disk.Area.TheVariants.{Double}
use Rattle.store_api.specs.Past.{Now}
use Rattle.store_api.specs.Looks.{LeavesState}
use Rattle.file_zero.specs.Reading.{IsRead}
use Rattle.file_zero.specs.Refused.{IsFirstPage, HasNoFirstPage}
use Rattle.store_api.proofs.Looks.{looks_once, stays_goes, Now-stays}
use Rattle.file_zero.proofs.Places.{read_into, page_of_copy, no_first_page}
use Rattle.file_zero.proofs.Refusals.{says_header, other_refused, missing_refused}
use Rattle.file_zero.proofs.Results.{on_ok}
use Rattle.file_zero.proofs.header.read_copy.Goals as goal

pub returns-in_default-read-clause-looks : goal.returns-in_default-read-clause-looks
returns-in_default-read-clause-looks g c =
    let past = g.D.Disk.past in
    looks_once Double (is_ok c.read.result) (past c.args.disk.now) (past c.read.new.self) c.read.ensures.goes

pub returns-in-Some-clause-looks : goal.returns-in-Some-clause-looks
returns-in-Some-clause-looks g c =
    let past = g.D.Disk.past in
    looks_once Double (is_ok c.read.result) (past c.args.disk.now) (past c.read.new.self) c.read.ensures.goes

pub returns-in-Some-clause-same : goal.returns-in-Some-clause-same
returns-in-Some-clause-same g c =
    let past = g.D.Disk.past in
    let p0 = past c.args.disk.now in
    let p1 = past c.read.new.self in
    on_ok (LeavesState p0 p1) c.header_of.result (stays_goes Double p0 p1 c.in-Ok-read.ensures.goes)

pub returns-in-Some-clause-header : goal.returns-in-Some-clause-header
returns-in-Some-clause-header g c =
    let past = g.D.Disk.past in
    let p0 = past c.args.disk.now in
    let p1 = past c.read.new.self in
    let vec = c.in-Ok.copies in
    let n = c.in-Ok-read.count in
    let new = c.read.new.into in
    let size : length new ≡ vec.len = omega (arith, c.read.auto.into, c.deref_mut.ensures.len) in
    let page = c.in-Some.page.now in
    let read : Now (IsFirstPage page) p1 = λ s ticks is.
    let at0 = stays_goes Double p0 p1 c.in-Ok-read.ensures.goes s ticks is in
    let are = read_into n vec.len 262144 c.deref.result.now new vec.items s.double.seen c.deref.ensures.value size c.in-Ok.ensures.len
    (c.in-Ok-read.ensures.bytes s at0.0 at0.1) in
    page_of_copy s.double.seen (take n c.deref.result.now) are s.pages.seen (c.requires.bad s at0.0 at0.1) page c.in-Some.ensures.some in
    IfOk-weaker c.header_of.result _ _ (λ header is. says_header p1 page read header.run header.first is) c.header_of.ensures.ok

pub returns-in-Some-clause-refused : goal.returns-in-Some-clause-refused
returns-in-Some-clause-refused g c =
    let past = g.D.Disk.past in
    let p0 = past c.args.disk.now in
    let p1 = past c.read.new.self in
    let vec = c.in-Ok.copies in
    let n = c.in-Ok-read.count in
    let new = c.read.new.into in
    let size : length new ≡ vec.len = omega (arith, c.read.auto.into, c.deref_mut.ensures.len) in
    let page = c.in-Some.page.now in
    let read : Now (IsFirstPage page) p1 = λ s ticks is.
    let at0 = stays_goes Double p0 p1 c.in-Ok-read.ensures.goes s ticks is in
    let are = read_into n vec.len 262144 c.deref.result.now new vec.items s.double.seen c.deref.ensures.value size c.in-Ok.ensures.len
    (c.in-Ok-read.ensures.bytes s at0.0 at0.1) in
    page_of_copy s.double.seen (take n c.deref.result.now) are s.pages.seen (c.requires.bad s at0.0 at0.1) page c.in-Some.ensures.some in
    IfErr-weaker c.header_of.result _ _ (λ why other. other_refused p0 p1 page why read other) c.header_of.ensures.other

pub returns-clause-looks : goal.returns-clause-looks
returns-clause-looks g c =
    let past = g.D.Disk.past in
    looks_once Double (is_ok c.read.result) (past c.args.disk.now) (past c.read.new.self) c.read.ensures.goes

pub returns-clause-refused : goal.returns-clause-refused
returns-clause-refused g c =
    let past = g.D.Disk.past in
    let p0 = past c.args.disk.now in
    let p1 = past c.read.new.self in
    let vec = c.in-Ok.copies in
    let n = c.in-Ok-read.count in
    let new = c.read.new.into in
    let size : length new ≡ vec.len = omega (arith, c.read.auto.into, c.deref_mut.ensures.len) in
    let stays = stays_goes Double p0 p1 c.in-Ok-read.ensures.goes in
    let none : Now HasNoFirstPage p1 = λ s ticks is.
    let at0 = stays_goes Double p0 p1 c.in-Ok-read.ensures.goes s ticks is in
    let are = read_into n vec.len 262144 c.deref.result.now new vec.items s.double.seen c.deref.ensures.value size c.in-Ok.ensures.len
    (c.in-Ok-read.ensures.bytes s at0.0 at0.1) in
    no_first_page s.double.seen (take n c.deref.result.now) are s.pages.seen (c.requires.bad s at0.0 at0.1) c.in-None.ensures.none in
    missing_refused p0 p1 c.args.len c.args.place.now c.requires.size c.requires.fits c.missing.result c.missing.ensures none
    (Now-stays (λ s. IsRead c.args.len c.args.place.now s.pages.seen) p0 p1 stays c.requires.read)
