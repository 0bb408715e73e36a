use Rattle.std.proofs.Common.{◌≡◌, ◌*◌, length, take, drop, ◌∙◌, rules}
use Rattle.std.specs.Prelude.{is_ok}
use Rattle.store_api.specs.declared.disk.Area.TheVariants.{Pages}
use Rattle.store_api.proofs.Looks.{looks_once, stays_goes}
use Rattle.page_recovery.proofs.reading.read_place.Goals as goal

pub returns-in_err-len-clause-looks : goal.returns-in_err-len-clause-looks
returns-in_err-len-clause-looks g c =
    let past = g.D.Disk.past in
    looks_once Pages (is_ok c.read.result) (past c.args.disk.now) (past c.read.new.self) c.read.ensures.goes

pub returns-clause-looks : goal.returns-clause-looks
returns-clause-looks g c =
    let past = g.D.Disk.past in
    looks_once Pages (is_ok c.read.result) (past c.args.disk.now) (past c.read.new.self) c.read.ensures.goes

pub returns-clause-same : goal.returns-clause-same
returns-clause-same g c =
    let past = g.D.Disk.past in
    stays_goes Pages (past c.args.disk.now) (past c.read.new.self) c.in_ok-len.ensures.goes

pub returns-clause-good : goal.returns-clause-good
returns-clause-good g c = λ s ticks is.
    let past = g.D.Disk.past in
    let at0 = stays_goes Pages (past c.args.disk.now) (past c.read.new.self) c.in_ok-len.ensures.goes s ticks is in
    let size : length c.read.new.into ≡ 4096 = search rules in
    c.is_page.ensures s.pages.seen
    (c.in_ok-len.ensures.bytes s at0.0 at0.1 ∙ (λ i. take (size i) (drop (4096 * c.from.ensures i) s.pages.seen)))
