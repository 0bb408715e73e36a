use Rattle.std.proofs.Common.{ℕ, ◌+◌, ◌-◌, ◌*◌, min, List, ap, arith}
use Rattle.mtr.proofs.Consulting.{consults_then, claim_left}
use Rattle.space_map.specs.Map.{free_among}
use Rattle.space_map.specs.Taking.{map_pages}
use Rattle.space_map.proofs.Places.{distinct_map_pages, count_joined}
use Rattle.space_map.proofs.parts.count_all.Goals as goal

pub count_in_part-requires-clause-few : goal.count_in_part-requires-clause-few
count_in_part-requires-clause-few g c = omega (arith, c.requires.few, claim_left map_pages _ _ distinct_map_pages c.loop-part.invariant.consults.visits)

pub returns-in_err-free-clause-consults : goal.returns-in_err-free-clause-consults
returns-in_err-free-clause-consults g c = consults_then map_pages _ _ _ c.loop-part.invariant.consults c.count_in_part.ensures.consults

pub loop-part-preserved : goal.loop-part-preserved
loop-part-preserved g c =
    let before = c.loop-part.invariant in
    let here = c.count_in_part.ensures.consults in
    let from = 32512 * c.loop-part.part in
    let rest = min c.args.count (32512 * (c.loop-part.part + 1)) - 32512 * c.loop-part.part in
    record {
      consults = consults_then map_pages _ _ _ before.consults here;
      counted = λ told.
          let told_before = here.goes.told told in
          let same = ap (λ (f : ℕ → List ℕ). free_among f from rest) (before.consults.same told_before).seen in
          omega (arith, before.counted told_before, c.in_ok-free.ensures.free told, same, count_joined (g.M.Mtr.state c.args.m.now).seen c.loop-part.part c.args.count);
      few = omega (arith, before.few, c.in_ok-free.ensures.few);
    }
