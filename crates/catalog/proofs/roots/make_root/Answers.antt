use Rattle.std.proofs.Common.{List, ℕ, sym, subst, arith}
use Rattle.std.proofs.lemmas.Result.{err_from_is_err_and}
use Rattle.mtr.specs.Calls.{Puts}
use Rattle.catalog.specs.Creating.{Attempts}
use Rattle.catalog.proofs.Claims.{place_for}
use Rattle.catalog.proofs.Reasons.{on_err, take_reason}
use Rattle.catalog.proofs.Rooted.{claim_first, attempts_first, within_second, attempts_second, makes_root}
use Rattle.catalog.proofs.roots.make_root.Goals as goal

pub returns-in_err-page-clause-reason : goal.returns-in_err-page-clause-reason
returns-in_err-page-clause-reason g c =
    let p = err_from_is_err_and c.from_residual.result c.from_residual.ensures.1 in
    rw (p.1, p.2) (take_reason (g.M.Mtr.state c.args.m.now) (g.M.Mtr.state c.take.new.m) c.in_err-page.field-0.0 c.in_err-page.ensures.reason)

pub returns-then-page-lt-FIXED_PAGES-clause-kept : goal.returns-then-page-lt-FIXED_PAGES-clause-kept
returns-then-page-lt-FIXED_PAGES-clause-kept g c = attempts_first c.in_ok-page.page (g.M.Mtr.state c.args.m.now) (g.M.Mtr.state c.take.new.m) c.in_ok-page.ensures.taken c.in_ok-page.ensures.counted

pub make_zeros-requires-clause-few : goal.make_zeros-requires-clause-few
make_zeros-requires-clause-few g c =
    place_for c.in_ok-page.page (g.M.Mtr.state c.take.new.m).visited
    (omega (arith, c.requires.few, claim_first c.in_ok-page.page (g.M.Mtr.state c.args.m.now) (g.M.Mtr.state c.take.new.m) c.in_ok-page.ensures.taken c.in_ok-page.ensures.counted))

pub returns-in_err-make_zeros-clause-kept : goal.returns-in_err-make_zeros-clause-kept
returns-in_err-make_zeros-clause-kept g c =
    on_err _ _
    (subst (Attempts 1 (g.M.Mtr.state c.args.m.now)) (sym c.in_err-make_zeros.ensures.kept) (attempts_first c.in_ok-page.page (g.M.Mtr.state c.args.m.now) (g.M.Mtr.state c.take.new.m) c.in_ok-page.ensures.taken c.in_ok-page.ensures.counted))

pub put-requires-clause-within : goal.put-requires-clause-within
put-requires-clause-within g c =
    within_second c.in_ok-page.page (g.M.Mtr.state c.args.m.now) (g.M.Mtr.state c.take.new.m) c.in_ok-page.ensures.taken c.in_ok-page.ensures.counted c.if-page-lt-FIXED_PAGES.false (g.M.Mtr.state c.make_zeros.new.m) c.in_ok-make_zeros.ensures.made

pub returns-in_err-put-clause-kept : goal.returns-in_err-put-clause-kept
returns-in_err-put-clause-kept g c =
    on_err _ _
    (subst (Attempts 1 (g.M.Mtr.state c.args.m.now)) (sym c.in_err-put.ensures.refused)
    (attempts_second c.in_ok-page.page (g.M.Mtr.state c.args.m.now) (g.M.Mtr.state c.take.new.m) c.in_ok-page.ensures.taken c.in_ok-page.ensures.counted c.if-page-lt-FIXED_PAGES.false (g.M.Mtr.state c.make_zeros.new.m) c.in_ok-make_zeros.ensures.made))

pub returns-clause-made : goal.returns-clause-made
returns-clause-made g c =
    let second = g.M.Mtr.state c.make_zeros.new.m in
    let new = g.M.Mtr.state c.put.new.self in
    let puts = subst (λ (bytes : List ℕ). Puts c.in_ok-page.page 20 bytes second new) c.head_of_leaf.ensures c.in_ok-put.ensures.put in
    makes_root c.in_ok-page.page (g.M.Mtr.state c.args.m.now) (g.M.Mtr.state c.take.new.m) c.in_ok-page.ensures.taken c.in_ok-page.ensures.counted c.if-page-lt-FIXED_PAGES.false second c.in_ok-make_zeros.ensures.made c.args.index c.args.record_len (omega (arith, c.ranges.index.fits))
    (omega (arith, c.ranges.record_len.fits)) c.requires.width new puts
