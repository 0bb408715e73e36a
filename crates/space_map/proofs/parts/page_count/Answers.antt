use Rattle.std.proofs.Common.{refl}
use Rattle.mtr.proofs.Consulting.{consults_asked}
use Rattle.space_map.specs.Taking.{map_pages}
use Rattle.space_map.proofs.parts.page_count.Goals as goal

pub returns-then-count-lt-FIXED_PAGES-clause-consults :
    goal.returns-then-count-lt-FIXED_PAGES-clause-consults
returns-then-count-lt-FIXED_PAGES-clause-consults g c = consults_asked map_pages 0 _ _ _ refl c.capacity.ensures.asks

pub returns-clause-consults : goal.returns-clause-consults
returns-clause-consults g c = consults_asked map_pages 0 _ _ _ refl c.capacity.ensures.asks
