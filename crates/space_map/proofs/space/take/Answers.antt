use Rattle.std.proofs.Common.{arith}
use Rattle.mtr.proofs.Consulting.{consults_then, claim_left}
use Rattle.space_map.specs.Taking.{map_pages}
use Rattle.space_map.proofs.Places.{distinct_map_pages}
use Rattle.space_map.proofs.Marked.{on_err}
use Rattle.space_map.proofs.Taken.{takes, none_free, map_within, page_count_is}
use Rattle.space_map.proofs.space.take.Goals as goal

pub find_free-requires-clause-few : goal.find_free-requires-clause-few
find_free-requires-clause-few g c = omega (arith, c.requires, claim_left map_pages _ _ distinct_map_pages c.page_count.ensures.consults.visits)

pub set_mark-requires-clause-few : goal.set_mark-requires-clause-few
set_mark-requires-clause-few g c =
    let both = consults_then map_pages _ _ _ c.page_count.ensures.consults c.find_free.ensures.consults in
    omega (arith, c.requires, claim_left map_pages _ _ distinct_map_pages both.visits)

pub set_mark-requires-clause-within : goal.set_mark-requires-clause-within
set_mark-requires-clause-within g c =
    let both = consults_then map_pages _ _ _ c.page_count.ensures.consults c.find_free.ensures.consults in
    map_within _ _ _ both (λ told. c.in_ok-count.ensures.value (c.find_free.ensures.consults.goes.told told)) c.in_ok-count.ensures.bounds.0

pub returns-in_ok-set_mark-in-Some-clause-taken : goal.returns-in_ok-set_mark-in-Some-clause-taken
returns-in_ok-set_mark-in-Some-clause-taken g c = takes _ _ c.in_ok-found.found _ _ _ _ c.page_count.ensures.consults c.find_free.ensures.consults c.in_ok-count.ensures.value c.in_ok-found.ensures.found c.in-Some.is c.in_ok-set_mark-in-Some.ensures.marked

pub returns-in-None-clause-kept : goal.returns-in-None-clause-kept
returns-in-None-clause-kept g c = consults_then map_pages _ _ _ c.page_count.ensures.consults c.find_free.ensures.consults

pub returns-in-None-clause-reason : goal.returns-in-None-clause-reason
returns-in-None-clause-reason g c = none_free _ c.in_ok-found.found _ _ _ c.page_count.ensures.consults c.find_free.ensures.consults c.in_ok-count.ensures.value c.in_ok-found.ensures.found c.in-None.is

pub returns-in_err-found-clause-kept : goal.returns-in_err-found-clause-kept
returns-in_err-found-clause-kept g c = on_err _ _ (consults_then map_pages _ _ _ c.page_count.ensures.consults c.find_free.ensures.consults)

pub returns-in_err-set_mark-in-Some-clause-kept : goal.returns-in_err-set_mark-in-Some-clause-kept
returns-in_err-set_mark-in-Some-clause-kept g c =
    let both = consults_then map_pages _ _ _ c.page_count.ensures.consults c.find_free.ensures.consults in
    on_err _ _ (consults_then map_pages _ _ _ both c.in_err-set_mark-in-Some.ensures.kept)

pub returns-in_ok-set_mark-in-Some-clause-counted : goal.returns-in_ok-set_mark-in-Some-clause-counted
returns-in_ok-set_mark-in-Some-clause-counted g c = λ told.
    let told_found = c.in_ok-set_mark-in-Some.ensures.marked.goes.told told in
    page_count_is c.in_ok-count.count (g.M.Mtr.state c.args.m.now) (c.in_ok-count.ensures.value (c.find_free.ensures.consults.goes.told told_found)) c.in_ok-count.ensures.bounds
