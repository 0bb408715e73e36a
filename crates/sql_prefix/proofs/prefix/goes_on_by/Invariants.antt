use Rattle.std.proofs.Common.{ℕ, ◌+◌, ◌<◌}
use Rattle.sql_prefix.specs.Prefix.{GoesOnAt}
use Rattle.sql_prefix.proofs.prefix.goes_on_by.Given as goal

abbrev pub invariant-loop-len : goal.invariant-loop-len
invariant-loop-len l = (k : ℕ) → k < l.len → GoesOnAt l.bytes l.word (k + 1) → ⊥
