use Rattle.std.proofs.Common.{arith}
use Rattle.mtr.proofs.Consulting.{consults_then, claim_left}
use Rattle.space_map.specs.Taking.{map_pages}
use Rattle.space_map.proofs.Places.{distinct_map_pages}
use Rattle.space_map.proofs.space.free_count.Goals as goal

pub count_all-requires-clause-few : goal.count_all-requires-clause-few
count_all-requires-clause-few g c = omega (arith, c.requires, claim_left map_pages _ _ distinct_map_pages c.page_count.ensures.consults.visits)

pub returns-clause-consults : goal.returns-clause-consults
returns-clause-consults g c = consults_then map_pages _ _ _ c.page_count.ensures.consults c.count_all.ensures.consults
