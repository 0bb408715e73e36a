use Rattle.std.proofs.Common.{arith}
use Rattle.mtr.proofs.Consulting.{consults_then, claim_left}
use Rattle.space_map.specs.Taking.{map_pages}
use Rattle.space_map.proofs.Places.{distinct_map_pages}
use Rattle.space_map.proofs.Marked.{on_err}
use Rattle.space_map.proofs.Taken.{marks_later, map_within}
use Rattle.space_map.proofs.space.give.Goals as goal

pub set_mark-requires-clause-few : goal.set_mark-requires-clause-few
set_mark-requires-clause-few g c = omega (arith, c.requires.few, claim_left map_pages _ _ distinct_map_pages c.page_count.ensures.consults.visits)

pub set_mark-requires-clause-within : goal.set_mark-requires-clause-within
set_mark-requires-clause-within g c = map_within _ _ _ c.page_count.ensures.consults c.in_ok-count.ensures.value c.in_ok-count.ensures.bounds.0

pub returns-clause-given : goal.returns-clause-given
returns-clause-given g c = marks_later c.args.page 0 _ _ _ c.page_count.ensures.consults c.in_ok-set_mark.ensures.marked

pub returns-in_err-set_mark-clause-kept : goal.returns-in_err-set_mark-clause-kept
returns-in_err-set_mark-clause-kept g c = on_err _ _ (consults_then map_pages _ _ _ c.page_count.ensures.consults c.in_err-set_mark.ensures.kept)
