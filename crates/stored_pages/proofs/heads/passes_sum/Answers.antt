use Rattle.std.proofs.Common.{arith}
use Rattle.std.proofs.lemmas.Grind.{common_steps}
use Rattle.stored_pages.specs.Words.{u64_at}
use Rattle.stored_pages.proofs.heads.passes_sum.Goals as goal

pub slice_bounds-fnv-count : goal.slice_bounds-fnv-count
unfolding u64_at
slice_bounds-fnv-count c = grind (arith, common_steps)

pub slice_bounds-fnv-start : goal.slice_bounds-fnv-start
unfolding u64_at
slice_bounds-fnv-start c = grind (arith, common_steps)

pub slice_bounds-fnv-end : goal.slice_bounds-fnv-end
unfolding u64_at
slice_bounds-fnv-end c = grind (arith, common_steps)

pub returns : goal.returns
unfolding u64_at
returns c = grind (arith, common_steps)
