use Rattle.std.proofs.Common.{◌≡◌, ℕ, ◌<◌}
use Rattle.space_map.specs.Map.{mark_of}
use Rattle.tree_check.specs.Rows.{page_in}
use Rattle.tree_check.proofs.space.check_space.Given as goal

abbrev pub invariant-loop-page : goal.invariant-loop-page
invariant-loop-page l = (page : ℕ) → page < l.page → mark_of (page_in l.pages) page ≡ 1
