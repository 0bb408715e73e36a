use Rattle.std.proofs.Common.{◌/◌, arith}
use Rattle.std.specs.Prelude.{is_ok}
use Rattle.store_api.specs.declared.disk.Area.TheVariants.{Pages}
use Rattle.store_api.proofs.Looks.{looks_once, stays_goes}
use Rattle.page_recovery.proofs.Places.{past_end}
use Rattle.page_recovery.proofs.reading.whole_pages.Goals as goal

pub returns-in_err-len-clause-looks : goal.returns-in_err-len-clause-looks
returns-in_err-len-clause-looks g c =
    let past = g.D.Disk.past in
    looks_once Pages (is_ok c.len.result) (past c.args.disk.now) (past c.len.new.self) c.len.ensures.goes

pub returns-then-whole-from-clause-looks : goal.returns-then-whole-from-clause-looks
returns-then-whole-from-clause-looks g c =
    let past = g.D.Disk.past in
    looks_once Pages (is_ok c.len.result) (past c.args.disk.now) (past c.len.new.self) c.len.ensures.goes

pub returns-then-whole-from-clause-same : goal.returns-then-whole-from-clause-same
returns-then-whole-from-clause-same g c =
    let past = g.D.Disk.past in
    stays_goes Pages (past c.args.disk.now) (past c.len.new.self) c.in_ok-len.ensures.goes

pub returns-then-whole-from-clause-none : goal.returns-then-whole-from-clause-none
returns-then-whole-from-clause-none g c = λ s ticks is page past_it below.
    let past = g.D.Disk.past in
    let at0 = stays_goes Pages (past c.args.disk.now) (past c.len.new.self) c.in_ok-len.ensures.goes s ticks is in
    past_end page (c.in_ok-len.len / 4096) c.in_ok-len.len s.pages.seen (c.in_ok-len.ensures.length s at0.0 at0.1) (omega arith) past_it

pub returns-else-whole-from-clause-looks : goal.returns-else-whole-from-clause-looks
returns-else-whole-from-clause-looks g c =
    let past = g.D.Disk.past in
    looks_once Pages (is_ok c.len.result) (past c.args.disk.now) (past c.len.new.self) c.len.ensures.goes

pub returns-else-whole-from-clause-same : goal.returns-else-whole-from-clause-same
returns-else-whole-from-clause-same g c =
    let past = g.D.Disk.past in
    stays_goes Pages (past c.args.disk.now) (past c.len.new.self) c.in_ok-len.ensures.goes
