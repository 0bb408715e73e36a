use Rattle.std.proofs.Common.{◌≡◌}
use Rattle.sql_history.specs.Counts.{rows_below, capped}
use Rattle.run_outcome.proofs.shown.count_rows.Given as goal

abbrev pub invariant-loop-table : goal.invariant-loop-table
invariant-loop-table l = l.rows ≡ capped (rows_below l.table l.db)
