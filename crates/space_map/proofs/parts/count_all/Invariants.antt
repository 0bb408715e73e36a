use Rattle.std.proofs.Common.{◌≡◌, ◌*◌, ◌≤◌, min}
use Rattle.std.specs.Prelude.{IsTrue}
use Rattle.mtr.specs.Calls.{Consults}
use Rattle.space_map.specs.Map.{free_among}
use Rattle.space_map.specs.Taking.{map_pages}
use Rattle.space_map.proofs.parts.count_all.Given as goal

abbrev pub invariant-loop-part : goal.invariant-loop-part
invariant-loop-part g l =
    let state = g.M.Mtr.state in
    record {
      consults : Consults map_pages (state l.fn.m) (state l.m);
      counted : IsTrue (state l.m).told → l.free ≡ free_among (state l.fn.m).seen 0 (min l.count (32512 * l.part));
      few : l.free ≤ 32512 * l.part;
    }
