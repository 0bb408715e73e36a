use Rattle.std.proofs.Common.{◌≡◌}
use Rattle.sql_history.specs.Counts.{capped, rows_below}
use Rattle.sql_history.proofs.counts.rows_in.Given as goal

-- the rows of the tables so far are counted
abbrev pub invariant-loop-table : goal.invariant-loop-table
invariant-loop-table l = l.total ≡ capped (rows_below l.table l.db)
