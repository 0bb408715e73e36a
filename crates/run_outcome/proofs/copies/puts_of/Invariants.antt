use Rattle.std.proofs.Common.{◌≡◌}
use Rattle.run_outcome.specs.Tables.{puts_below}
use Rattle.run_outcome.proofs.copies.puts_of.Given as goal

abbrev pub invariant-loop-table : goal.invariant-loop-table
invariant-loop-table l = l.changes.items ≡ puts_below l.table l.db
