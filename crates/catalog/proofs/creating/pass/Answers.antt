use Rattle.std.proofs.Common.{◌≡◌, ℕ, ◌+◌, drop, subst, arith}
use Rattle.mtr.proofs.Consulting.{consults_asked}
use Rattle.catalog.specs.Creating.{asked_pages}
use Rattle.catalog.proofs.Claims.{deals_asked}
use Rattle.catalog.proofs.Nearing.{near_used, near_unused}
use Rattle.catalog.proofs.Shown.{catalog_page_known, asked_page_known}
use Rattle.catalog.proofs.creating.pass.Goals as goal

pub returns-then-bytes-eq1-clause-nears : goal.returns-then-bytes-eq1-clause-nears
returns-then-bytes-eq1-clause-nears g c = λ told.
    let page = 5 + c.from.result in
    let looked = consults_asked asked_pages page _ _ _ (asked_page_known page (catalog_page_known page (omega arith) (omega (arith, c.from.ensures, c.requires.inside, c.requires.some)))) c.bytes.follows.holds-at-none in
    let shown = c.in_ok-bytes.ensures.shown (looked.goes.told told) in
    let same = subst (λ (n : ℕ). drop 20 c.in_ok-bytes.bytes.now ≡ drop 20 ((g.M.Mtr.state c.args.m.now).seen (5 + n))) c.from.ensures shown.same in
    near_used c.args.place c.args.step (g.M.Mtr.state c.args.m.now).seen c.in_ok-bytes.bytes.now same c.requires.some c.requires.inside c.if-bytes-eq1.true

pub returns-then-bytes-eq1-clause-consults : goal.returns-then-bytes-eq1-clause-consults
returns-then-bytes-eq1-clause-consults g c =
    let page = 5 + c.from.result in
    consults_asked asked_pages page _ _ _ (asked_page_known page (catalog_page_known page (omega arith) (omega (arith, c.from.ensures, c.requires.inside, c.requires.some)))) c.bytes.follows.holds-at-none

pub returns-then-bytes-eq1-clause-deals : goal.returns-then-bytes-eq1-clause-deals
returns-then-bytes-eq1-clause-deals g c = deals_asked (5 + c.from.result) _ _ _ c.bytes.follows.holds-at-none

pub returns-else-bytes-eq1-clause-nears : goal.returns-else-bytes-eq1-clause-nears
returns-else-bytes-eq1-clause-nears g c = λ told.
    let page = 5 + c.from.result in
    let looked = consults_asked asked_pages page _ _ _ (asked_page_known page (catalog_page_known page (omega arith) (omega (arith, c.from.ensures, c.requires.inside, c.requires.some)))) c.bytes.follows.holds-at-none in
    let shown = c.in_ok-bytes.ensures.shown (looked.goes.told told) in
    let same = subst (λ (n : ℕ). drop 20 c.in_ok-bytes.bytes.now ≡ drop 20 ((g.M.Mtr.state c.args.m.now).seen (5 + n))) c.from.ensures shown.same in
    near_unused c.args.place c.args.step (g.M.Mtr.state c.args.m.now).seen c.in_ok-bytes.bytes.now same c.requires.some c.requires.inside c.if-bytes-eq1.false

pub returns-else-bytes-eq1-clause-consults : goal.returns-else-bytes-eq1-clause-consults
returns-else-bytes-eq1-clause-consults g c =
    let page = 5 + c.from.result in
    consults_asked asked_pages page _ _ _ (asked_page_known page (catalog_page_known page (omega arith) (omega (arith, c.from.ensures, c.requires.inside, c.requires.some)))) c.bytes.follows.holds-at-none

pub returns-else-bytes-eq1-clause-deals : goal.returns-else-bytes-eq1-clause-deals
returns-else-bytes-eq1-clause-deals g c = deals_asked (5 + c.from.result) _ _ _ c.bytes.follows.holds-at-none
