use Rattle.std.proofs.lemmas.Result.{IfOk-weaker, IfErr-weaker}
use Rattle.page_recovery.specs.declared.bad.RecoverBad.TheVariants.{NoHeader}
use Rattle.page_recovery.specs.Reading.{StandsIn}
use Rattle.page_recovery.proofs.Looking.{Since-stays}
use Rattle.page_recovery.proofs.Read.{Cause, stands_there, stands_not, other_cause}
use Rattle.page_recovery.proofs.reading.read_header.Goals as goal

pub returns-then-not-branch-clause-refused : goal.returns-then-not-branch-clause-refused
returns-then-not-branch-clause-refused g c =
    let past = g.D.Disk.past in
    let p0 = past c.args.disk.now in
    let p1 = past c.read_place.new.disk in
    Since-stays (Cause NoHeader) p0 p1 c.in_ok-read_place.ensures.same
    (stands_not 0 c.read_place.new.place c.in_ok-read_place.field-0 p1 c.if-not-branch.true c.in_ok-read_place.ensures.good)

pub returns-clause-header : goal.returns-clause-header
returns-clause-header g c =
    let past = g.D.Disk.past in
    let p1 = past c.read_place.new.disk in
    let place = c.read_place.new.place in
    let there = stands_there 0 place c.in_ok-read_place.field-0 p1 c.if-not-branch.false c.in_ok-read_place.ensures.good in
    IfOk-weaker c.header_of.result _ _ (λ header is. λ s ticks at. record { page = place; is_read = there s ticks at; header = is }) c.header_of.ensures.ok

pub returns-clause-refused : goal.returns-clause-refused
returns-clause-refused g c =
    let past = g.D.Disk.past in
    let p0 = past c.args.disk.now in
    let p1 = past c.read_place.new.disk in
    let place = c.read_place.new.place in
    let there = stands_there 0 place c.in_ok-read_place.field-0 p1 c.if-not-branch.false c.in_ok-read_place.ensures.good in
    IfErr-weaker c.header_of.result _ _
    (λ why other. Since-stays (Cause why) p0 p1 c.in_ok-read_place.ensures.same
    (λ s ticks at. other_cause (StandsIn s.pages.seen) s.log.seen place why (there s ticks at) other)) c.header_of.ensures.other
