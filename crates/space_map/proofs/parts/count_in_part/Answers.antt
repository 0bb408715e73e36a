use Rattle.std.proofs.Common.{arith, ◌+◌, ◌*◌, ◌∙◌, ap}
use Rattle.mtr.proofs.Consulting.{consults_asked}
use Rattle.space_map.specs.Map.{free_among}
use Rattle.space_map.specs.Taking.{map_pages}
use Rattle.space_map.proofs.Places.{map_page_known, free_in_places}
use Rattle.space_map.proofs.parts.count_in_part.Goals as goal

pub returns-clause-consults : goal.returns-clause-consults
returns-clause-consults g c = consults_asked map_pages (2 + c.args.part) _ _ _ (map_page_known (2 + c.args.part) (omega arith) (omega arith)) c.bytes.follows.holds-at-none

pub returns-clause-free : goal.returns-clause-free
returns-clause-free g c = λ told.
    let looked = consults_asked map_pages (2 + c.args.part) _ _ _ (map_page_known (2 + c.args.part) (omega arith) (omega arith)) c.bytes.follows.holds-at-none in
    let shown = c.in_ok-map.ensures.shown (looked.goes.told told) in
    let end = c.part_len-end.ensures in
    c.count_free.ensures.count ∙ free_in_places (g.M.Mtr.state c.args.m.now).seen _ c.args.part _ shown.same (omega (arith, end)) ∙ ap (free_among (g.M.Mtr.state c.args.m.now).seen (32512 * c.args.part)) end
