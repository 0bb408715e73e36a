use Rattle.std.proofs.Common.{◌≡◌, ℕ, ◌<◌}
use Rattle.doublewrite.specs.Batches.{number_at}
use Rattle.doublewrite.proofs.batch.Batch.contains.Given as goal

abbrev pub invariant-loop-slot : goal.invariant-loop-slot
invariant-loop-slot l = (k : ℕ) → k < l.slot → number_at l.self k ≡ l.number → ⊥
