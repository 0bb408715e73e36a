use Rattle.std.proofs.Common.{ℕ, ◌+◌, ◌*◌, min, List, None, subst, arith}
use Rattle.mtr.proofs.Consulting.{consults_then, claim_left}
use Rattle.space_map.specs.Map.{IsFirstFree}
use Rattle.space_map.specs.Taking.{map_pages}
use Rattle.space_map.proofs.Places.{distinct_map_pages, marked_on}
use Rattle.space_map.proofs.parts.find_free.Goals as goal

pub free_in_part-requires-clause-few : goal.free_in_part-requires-clause-few
free_in_part-requires-clause-few g c = omega (arith, c.requires.few, claim_left map_pages _ _ distinct_map_pages c.loop-part.invariant.consults.visits)

pub returns-in_err-found-clause-consults : goal.returns-in_err-found-clause-consults
returns-in_err-found-clause-consults g c = consults_then map_pages _ _ _ c.loop-part.invariant.consults c.free_in_part.ensures.consults

pub returns-in-Some-clause-consults : goal.returns-in-Some-clause-consults
returns-in-Some-clause-consults g c = consults_then map_pages _ _ _ c.loop-part.invariant.consults c.free_in_part.ensures.consults

pub loop-part-preserved : goal.loop-part-preserved
loop-part-preserved g c =
    let before = c.loop-part.invariant in
    let here = c.free_in_part.ensures.consults in
    let from = 32512 * c.loop-part.part in
    let to = min c.args.count (32512 * (c.loop-part.part + 1)) in
    record {
      consults = consults_then map_pages _ _ _ before.consults here;
      used = λ told page below.
          let told_before = here.goes.told told in
          let none = subst (IsFirstFree (g.M.Mtr.state c.loop-part.m).seen from to) c.in-None.is (c.in_ok-found.ensures.found told) in
          let still = subst (λ (f : ℕ → List ℕ). IsFirstFree f from to None) (before.consults.same told_before).seen none in
          marked_on (g.M.Mtr.state c.args.m.now).seen c.loop-part.part c.args.count (before.used told_before) still page below;
    }
