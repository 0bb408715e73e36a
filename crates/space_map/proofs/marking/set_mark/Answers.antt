use Rattle.std.proofs.Common.{◌+◌, ◌/◌, sym, subst, arith}
use Rattle.mtr.specs.Calls.{Consults}
use Rattle.mtr.proofs.Consulting.{consults_asked}
use Rattle.space_map.specs.Taking.{map_pages}
use Rattle.space_map.proofs.Places.{map_page_known}
use Rattle.space_map.proofs.Marked.{on_err, marks}
use Rattle.space_map.proofs.marking.set_mark.Goals as goal

pub returns-in_err-put-clause-kept : goal.returns-in_err-put-clause-kept
returns-in_err-put-clause-kept g c =
    let looked = consults_asked map_pages (2 + c.args.page / 32512) _ _ _ (map_page_known (2 + c.args.page / 32512) (omega arith) (omega arith)) c.bytes.follows.holds-at-none in
    on_err _ _ (subst (Consults map_pages (g.M.Mtr.state c.args.m.now)) (sym c.in_err-put.ensures.refused) looked)

pub returns-clause-marked : goal.returns-clause-marked
returns-clause-marked g c =
    let looked = consults_asked map_pages (2 + c.args.page / 32512) _ _ _ (map_page_known (2 + c.args.page / 32512) (omega arith) (omega arith)) c.bytes.follows.holds-at-none in
    marks c.args.page _ c.with_bit-byte.result c.in_ok-bytes.bytes.now _ _ _ c.in_ok-bytes.ensures.shown looked c.in_ok-put.ensures.put c.with_bit-byte.ensures.here c.with_bit-byte.ensures.others
