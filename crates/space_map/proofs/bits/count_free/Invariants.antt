use Rattle.std.proofs.Common.{◌≡◌, ◌≤◌}
use Rattle.space_map.specs.Places.{free_places}
use Rattle.space_map.proofs.bits.count_free.Given as goal

abbrev pub invariant-loop-place : goal.invariant-loop-place
invariant-loop-place l = (l.count ≡ free_places l.map l.place) × (l.count ≤ l.place)
