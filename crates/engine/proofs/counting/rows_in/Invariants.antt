use Rattle.std.specs.Prelude.{◌≡◌}
use Rattle.sql_history.specs.Counts.{rows_below, capped}
use Rattle.engine.proofs.counting.rows_in.Given as goal

abbrev pub invariant-loop-table : goal.invariant-loop-table
invariant-loop-table l = l.rows ≡ capped (rows_below l.table l.db)
