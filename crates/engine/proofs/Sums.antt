-- A sum that stands still at its type's end.
use Rattle.std.proofs.Common.{◌≡◌, ℕ, ◌≤◌, arith}
use Rattle.sql_history.specs.Counts.{capped, most_rows}

-- a count that is few is the whole count
pub few_counted : (n rows : ℕ) → rows ≡ capped n → rows ≤ most_rows → (rows ≡ n) × (n ≤ most_rows)
few_counted n rows is few = (omega (arith, is, few), omega (arith, is, few))
