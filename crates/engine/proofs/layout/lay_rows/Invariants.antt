use Rattle.std.proofs.Common.{◌≡◌}
use Rattle.std.specs.FinMap.{entries}
use Rattle.engine.proofs.Below.{below}
use Rattle.engine.proofs.layout.lay_rows.Given as goal

-- the rows of the tables before this one are there
abbrev pub invariant-loop-table : goal.invariant-loop-table
invariant-loop-table l = record {
  schemas : l.opening.schemas ≡ l.db.schemas;
  rows : entries l.opening.rows ≡ below l.table (entries l.db.rows);
}
