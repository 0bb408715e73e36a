use Rattle.std.proofs.Common.{arith, ◌+◌}
use Rattle.mtr.proofs.Consulting.{consults_asked}
use Rattle.space_map.specs.Taking.{map_pages}
use Rattle.space_map.proofs.Places.{map_page_known, first_none, first_some}
use Rattle.space_map.proofs.parts.free_in_part.Goals as goal

pub returns-in-Some-clause-consults : goal.returns-in-Some-clause-consults
returns-in-Some-clause-consults g c = consults_asked map_pages (2 + c.args.part) _ _ _ (map_page_known (2 + c.args.part) (omega arith) (omega arith)) c.bytes.follows.holds-at-none

pub returns-in-None-clause-consults : goal.returns-in-None-clause-consults
returns-in-None-clause-consults g c = consults_asked map_pages (2 + c.args.part) _ _ _ (map_page_known (2 + c.args.part) (omega arith) (omega arith)) c.bytes.follows.holds-at-none

pub returns-in-Some-clause-found : goal.returns-in-Some-clause-found
returns-in-Some-clause-found g c = λ told.
    let looked = consults_asked map_pages (2 + c.args.part) _ _ _ (map_page_known (2 + c.args.part) (omega arith) (omega arith)) c.bytes.follows.holds-at-none in
    let shown = c.in_ok-map.ensures.shown (looked.goes.told told) in
    let found = c.in-Some.ensures in
    first_some (g.M.Mtr.state c.args.m.now).seen _ c.args.part c.args.count _ _ shown.same c.part_len-end.ensures found.0 found.1 found.2

pub returns-in-None-clause-found : goal.returns-in-None-clause-found
returns-in-None-clause-found g c = λ told.
    let looked = consults_asked map_pages (2 + c.args.part) _ _ _ (map_page_known (2 + c.args.part) (omega arith) (omega arith)) c.bytes.follows.holds-at-none in
    let shown = c.in_ok-map.ensures.shown (looked.goes.told told) in
    first_none (g.M.Mtr.state c.args.m.now).seen _ c.args.part c.args.count _ shown.same c.part_len-end.ensures c.in-None.ensures
