use Rattle.std.specs.Prelude.{is_ok}
use Rattle.std.proofs.lemmas.Result.{IfOk-weaker, IfErr-weaker, on_ok_weaker}
use Rattle.store_api.specs.declared.disk.Area.TheVariants.{Pages}
use Rattle.store_api.specs.Past.{Now}
use Rattle.store_api.specs.Looks.{LeavesState}
use Rattle.file_zero.specs.Refused.{IsFirstPage}
use Rattle.store_api.proofs.Looks.{looks_once, looks_join, stays_goes, stays_join}
use Rattle.file_zero.proofs.Places.{page_in_place, bad_in_place}
use Rattle.file_zero.proofs.Refusals.{says_header, other_refused}
use Rattle.file_zero.proofs.Results.{on_ok}
use Rattle.file_zero.proofs.header.read_header.Goals as goal

pub returns-in_default-clause-looks : goal.returns-in_default-clause-looks
returns-in_default-clause-looks g c =
    let past = g.D.Disk.past in
    looks_once Pages (is_ok c.read.result) (past c.args.disk.now) (past c.read.new.self) c.read.ensures.goes

pub returns-then-is_in_place-clause-looks : goal.returns-then-is_in_place-clause-looks
returns-then-is_in_place-clause-looks g c =
    let past = g.D.Disk.past in
    looks_once Pages (is_ok c.read.result) (past c.args.disk.now) (past c.read.new.self) c.read.ensures.goes

pub returns-then-is_in_place-clause-same : goal.returns-then-is_in_place-clause-same
returns-then-is_in_place-clause-same g c =
    let past = g.D.Disk.past in
    let p0 = past c.args.disk.now in
    let p1 = past c.read.new.self in
    on_ok (LeavesState p0 p1) c.header_of.result (stays_goes Pages p0 p1 c.in-Ok.ensures.goes)

pub returns-then-is_in_place-clause-header : goal.returns-then-is_in_place-clause-header
returns-then-is_in_place-clause-header g c =
    let past = g.D.Disk.past in
    let p0 = past c.args.disk.now in
    let p1 = past c.read.new.self in
    let place = c.read.new.into in
    let read : Now (IsFirstPage place) p1 = λ s ticks is.
    let at0 = stays_goes Pages p0 p1 c.in-Ok.ensures.goes s ticks is in
    page_in_place c.in-Ok.len place c.is_in_place.result c.is_in_place.ensures c.if-is_in_place.true s.pages.seen s.double.seen
    (c.in-Ok.ensures.bytes s at0.0 at0.1) in
    IfOk-weaker c.header_of.result _ _ (λ header is. says_header p1 place read header.run header.first is) c.header_of.ensures.ok

pub returns-then-is_in_place-clause-refused : goal.returns-then-is_in_place-clause-refused
returns-then-is_in_place-clause-refused g c =
    let past = g.D.Disk.past in
    let p0 = past c.args.disk.now in
    let p1 = past c.read.new.self in
    let place = c.read.new.into in
    let read : Now (IsFirstPage place) p1 = λ s ticks is.
    let at0 = stays_goes Pages p0 p1 c.in-Ok.ensures.goes s ticks is in
    page_in_place c.in-Ok.len place c.is_in_place.result c.is_in_place.ensures c.if-is_in_place.true s.pages.seen s.double.seen
    (c.in-Ok.ensures.bytes s at0.0 at0.1) in
    IfErr-weaker c.header_of.result _ _ (λ why other. other_refused p0 p1 place why read other) c.header_of.ensures.other

pub read_copy-requires-clause-bad : goal.read_copy-requires-clause-bad
read_copy-requires-clause-bad g c = λ s ticks is.
    let past = g.D.Disk.past in
    let at0 = stays_goes Pages (past c.args.disk.now) (past c.read.new.self) c.in-Ok.ensures.goes s ticks is in
    bad_in_place c.in-Ok.len c.read.new.into c.is_in_place.result c.is_in_place.ensures c.if-is_in_place.false s.pages.seen
    (c.in-Ok.ensures.bytes s at0.0 at0.1)

pub returns-clause-looks : goal.returns-clause-looks
returns-clause-looks g c =
    let past = g.D.Disk.past in
    let p0 = past c.args.disk.now in
    let p1 = past c.read.new.self in
    looks_join p0 p1 (past c.read_copy.new.disk) (looks_once Pages (is_ok c.read.result) p0 p1 c.read.ensures.goes) c.read_copy.ensures.looks

pub returns-clause-same : goal.returns-clause-same
returns-clause-same g c =
    let past = g.D.Disk.past in
    let p0 = past c.args.disk.now in
    let p1 = past c.read.new.self in
    on_ok_weaker c.read_copy.result (λ after. stays_join p0 p1 (past c.read_copy.new.disk) (stays_goes Pages p0 p1 c.in-Ok.ensures.goes) after)
    c.read_copy.ensures.same
