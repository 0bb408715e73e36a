use Rattle.std.proofs.Common.{arith, ◌∙◌, ◌≡◌, subst, ℕ}
use Rattle.std.proofs.lemmas.Result.{err_from_is_err_and}
use Rattle.page_recovery.specs.Reading.{AreStanding}
use Rattle.store_api.proofs.Looks.{looks_none, looks_join, stays_join}
use Rattle.page_recovery.proofs.Read.{standing_next, standing_all, failed_from}
use Rattle.page_recovery.proofs.reading.read_pages.Goals as goal

pub returns-in_err-pages-clause-looks : goal.returns-in_err-pages-clause-looks
returns-in_err-pages-clause-looks g c = looks_none (g.D.Disk.past c.args.disk.now)

pub loop-page-preserved : goal.loop-page-preserved
loop-page-preserved g c =
    let past = g.D.Disk.past in
    let p1 = past c.whole_pages.new.disk in
    let p2 = past c.loop-page.disk in
    let p3 = past c.read_page.new.disk in
    record {
      looks = looks_join p1 p2 p3 c.loop-page.invariant.looks c.in_ok-read_page.ensures.looks;
      same = stays_join p1 p2 p3 c.loop-page.invariant.same c.in_ok-read_page.ensures.same;
      later = omega (arith, c.loop-page.invariant.later, c.in_ok-read_page.ensures.later);
      count = c.in_ok-read_page.ensures.count ∙ c.loop-page.invariant.count;
      standing = λ s ticks is.
          let at2 = c.in_ok-read_page.ensures.same s ticks is in
          standing_next s.pages.seen c.loop-page.page c.loop-page.pages c.read_page.new.pages (c.loop-page.invariant.standing s at2.0 at2.1)
          (c.in_ok-read_page.ensures.taken s ticks is);
    }

pub returns-clause-pages : goal.returns-clause-pages
returns-clause-pages g c = λ s ticks is.
    let past = g.D.Disk.past in
    let at1 = c.loop-page.invariant.same s ticks is in
    let end : c.loop-page.page ≡ c.in_ok-count.count = omega (arith, c.loop-page-test.false, c.loop-page.auto.page-end) in
    standing_all s.pages.seen c.in_ok-count.count c.args.capacity c.loop-page.pages c.in_ok-count.ensures.most
    (c.in_ok-count.ensures.none s at1.0 at1.1)
    (subst (λ (n : ℕ). AreStanding s.pages.seen n c.loop-page.pages) end (c.loop-page.invariant.standing s ticks is))

pub returns-in_err-read_page-clause-failed : goal.returns-in_err-read_page-clause-failed
returns-in_err-read_page-clause-failed g c =
    let past = g.D.Disk.past in
    let p = err_from_is_err_and c.from_residual-in_err-read_page.result c.from_residual-in_err-read_page.ensures.1 in
    rw (p.1, p.2)
    (failed_from (past c.args.disk.now).faults (past c.loop-page.disk).faults (past c.read_page.new.disk).faults c.in_err-read_page.field-0.0
    (omega (arith, c.in_ok-count.ensures.cause.later, c.loop-page.invariant.later)) c.in_err-read_page.ensures.failed)

pub returns-in_err-read_page-clause-looks : goal.returns-in_err-read_page-clause-looks
returns-in_err-read_page-clause-looks g c =
    let past = g.D.Disk.past in
    let p0 = past c.args.disk.now in
    let p1 = past c.whole_pages.new.disk in
    let p2 = past c.loop-page.disk in
    let p3 = past c.read_page.new.disk in
    looks_join p0 p1 p3 c.in_ok-count.ensures.looks (looks_join p1 p2 p3 c.loop-page.invariant.looks c.in_err-read_page.ensures.looks)
