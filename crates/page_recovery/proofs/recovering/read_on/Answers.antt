use Rattle.std.proofs.lemmas.Result.{err_from_is_err_and, IfErr-weaker, on_ok_weaker}
use Rattle.page_recovery.specs.Reading.{StandsIn}
use Rattle.page_recovery.specs.Recovering.{IsRead, IsRecovered}
use Rattle.store_api.proofs.Looks.{looks_join, stays_join}
use Rattle.page_recovery.proofs.Read.{Cause, no_cause, ok_since_read, since_known}
use Rattle.page_recovery.proofs.recovering.read_on.Goals as goal

pub returns-in_err-pages-clause-refused : goal.returns-in_err-pages-clause-refused
returns-in_err-pages-clause-refused g c =
    let past = g.D.Disk.past in
    let p0 = past c.args.disk.now in
    let p1 = past c.read_header.new.disk in
    let p2 = past c.read_pages.new.disk in
    let p = err_from_is_err_and c.from_residual-in_err-pages.result c.from_residual-in_err-pages.ensures.1 in
    rw (p.1, p.2)
    (no_cause c.in_err-pages.field-0.0 p1.faults p2.faults p0 p2 c.in_err-pages.ensures.failed
    (looks_join p0 p1 p2 c.in_ok-header.ensures.looks c.in_err-pages.ensures.looks))

pub returns-clause-looks : goal.returns-clause-looks
returns-clause-looks g c =
    let past = g.D.Disk.past in
    let p0 = past c.args.disk.now in
    let p1 = past c.read_header.new.disk in
    let p2 = past c.read_pages.new.disk in
    let p3 = past c.bring_on.new.disk in
    looks_join p0 p2 p3 (looks_join p0 p1 p2 c.in_ok-header.ensures.looks c.in_ok-pages.ensures.looks) c.bring_on.ensures.looks

pub returns-clause-same : goal.returns-clause-same
returns-clause-same g c =
    let past = g.D.Disk.past in
    let p0 = past c.args.disk.now in
    let p1 = past c.read_header.new.disk in
    let p2 = past c.read_pages.new.disk in
    let p3 = past c.bring_on.new.disk in
    on_ok_weaker c.bring_on.result
    (λ same. stays_join p0 p2 p3 (stays_join p0 p1 p2 c.in_ok-header.ensures.same c.in_ok-pages.ensures.same) same) c.bring_on.ensures.same

pub returns-clause-read : goal.returns-clause-read
returns-clause-read g c =
    let past = g.D.Disk.past in
    let p0 = past c.args.disk.now in
    let p1 = past c.read_header.new.disk in
    let p2 = past c.read_pages.new.disk in
    let p3 = past c.bring_on.new.disk in
    ok_since_read c.bring_on.result (λ s. IsRead s.pages.seen c.in_ok-header.header c.in_ok-pages.pages)
    (λ s r. IsRecovered (StandsIn s.pages.seen) s.log.seen r) p0 p2 p3
    (stays_join p0 p1 p2 c.in_ok-header.ensures.same c.in_ok-pages.ensures.same) c.bring_on.ensures.same
    (λ s ticks is.
    let at1 = c.in_ok-pages.ensures.same s ticks is in
    record { says = c.in_ok-header.ensures.header s at1.0 at1.1; standing = c.in_ok-pages.ensures.pages s ticks is }) c.bring_on.ensures.read

pub returns-clause-refused : goal.returns-clause-refused
returns-clause-refused g c =
    let past = g.D.Disk.past in
    let p0 = past c.args.disk.now in
    let p1 = past c.read_header.new.disk in
    let p2 = past c.read_pages.new.disk in
    let p3 = past c.bring_on.new.disk in
    IfErr-weaker c.bring_on.result _ _
    (λ why since.
    since_known (λ s. IsRead s.pages.seen c.in_ok-header.header c.in_ok-pages.pages) (Cause why) p0 p2 p3
    (stays_join p0 p1 p2 c.in_ok-header.ensures.same c.in_ok-pages.ensures.same) c.bring_on.ensures.looks.later
    (λ s ticks is.
    let at1 = c.in_ok-pages.ensures.same s ticks is in
    record { says = c.in_ok-header.ensures.header s at1.0 at1.1; standing = c.in_ok-pages.ensures.pages s ticks is }) since) c.bring_on.ensures.refused
