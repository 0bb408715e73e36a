use Rattle.std.proofs.Common.{◌≡◌, ◌<◌, ℕ}
use Rattle.space_map.specs.Map.{bit_in}
use Rattle.tree_use.proofs.beginning.are_reserved.Given as goal

abbrev pub invariant-loop-page : goal.invariant-loop-page
invariant-loop-page l = (other : ℕ) → other < l.page → bit_in l.map other ≡ 1
