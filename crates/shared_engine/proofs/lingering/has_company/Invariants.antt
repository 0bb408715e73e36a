use Rattle.std.proofs.Common.{ℕ, ◌<◌}
use Rattle.shared_engine.specs.Lingering.{MayCommit}
use Rattle.shared_engine.proofs.lingering.has_company.Given as goal

abbrev pub invariant-loop-other : goal.invariant-loop-other
invariant-loop-other g l = (other : ℕ) → other < l.other → MayCommit l.s other l.engine → ⊥
