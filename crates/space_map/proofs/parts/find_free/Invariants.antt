use Rattle.std.proofs.Common.{◌≡◌, ℕ, ◌*◌, ◌<◌, min}
use Rattle.std.specs.Prelude.{IsTrue}
use Rattle.mtr.specs.Calls.{Consults}
use Rattle.space_map.specs.Map.{mark_of}
use Rattle.space_map.specs.Taking.{map_pages}
use Rattle.space_map.proofs.parts.find_free.Given as goal

abbrev pub invariant-loop-part : goal.invariant-loop-part
invariant-loop-part g l =
    let state = g.M.Mtr.state in
    record {
      consults : Consults map_pages (state l.fn.m) (state l.m);
      used : IsTrue (state l.m).told → (page : ℕ) → page < min l.count (32512 * l.part) → mark_of (state l.fn.m).seen page ≡ 1;
    }
