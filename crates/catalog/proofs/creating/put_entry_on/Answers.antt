use Rattle.std.proofs.Common.{◌+◌, List, ℕ, length, sym, ap, subst, arith}
use Rattle.std.proofs.lemmas.Result.{err_from_is_err_and}
use Rattle.mtr.specs.Calls.{Consults}
use Rattle.mtr.proofs.Consulting.{consults_asked}
use Rattle.space_map.specs.Taking.{Miscounts}
use Rattle.catalog.specs.Creating.{asked_pages}
use Rattle.catalog.proofs.Makeables.{entry_len}
use Rattle.catalog.proofs.Reasons.{on_err}
use Rattle.catalog.proofs.Shown.{catalog_page_known, asked_page_known}
use Rattle.catalog.proofs.Told.{asked_reason}
use Rattle.catalog.proofs.creating.put_entry_on.Goals as goal

pub returns-in_err-bytes-clause-kept : goal.returns-in_err-bytes-clause-kept
returns-in_err-bytes-clause-kept g c =
    let page = 5 + c.from-page.result in
    on_err _ _ (consults_asked asked_pages page _ _ _ (asked_page_known page (catalog_page_known page (omega arith) (omega (arith, c.from-page.ensures, c.requires.inside)))) c.bytes.follows.holds-at-none)

pub returns-in_err-bytes-clause-reason : goal.returns-in_err-bytes-clause-reason
returns-in_err-bytes-clause-reason g c =
    let page = 5 + c.from-page.result in
    let p = err_from_is_err_and c.from_residual-in_err-bytes.result c.from_residual-in_err-bytes.ensures.1 in
    rw (p.1, p.2) (asked_reason asked_pages Miscounts page _ _ _ _ (asked_page_known page (catalog_page_known page (omega arith) (omega (arith, c.from-page.ensures, c.requires.inside)))) c.in_err-bytes.was c.bytes.follows.holds-at-none)

pub put-requires-clause-ends : goal.put-requires-clause-ends
put-requires-clause-ends g c = omega (
  arith,
  entry_len c.args.schema.now c.args.roots.now c.requires.makeable c.requires.count,
  ap (λ (bytes : List ℕ). length bytes) c.in_ok-entry.ensures,
  ap (λ (bytes : List ℕ). length bytes) c.deref.ensures.value,
)

pub returns-in_err-put-clause-kept : goal.returns-in_err-put-clause-kept
returns-in_err-put-clause-kept g c =
    let page = 5 + c.from-page.result in
    let looked = consults_asked asked_pages page _ _ _ (asked_page_known page (catalog_page_known page (omega arith) (omega (arith, c.from-page.ensures, c.requires.inside)))) c.bytes.follows.holds-at-none in
    on_err _ _ (subst (Consults asked_pages (g.M.Mtr.state c.args.m.now)) (sym c.in_err-put.ensures.refused) looked)
