use Rattle.std.proofs.Common.{◌≡◌, ℕ, ◌<◌}
use Rattle.space_map.specs.Map.{bit_in}
use Rattle.space_map.proofs.bits.first_free.Given as goal

abbrev pub invariant-loop-place : goal.invariant-loop-place
invariant-loop-place l = (place : ℕ) → place < l.place → bit_in l.map place ≡ 1
