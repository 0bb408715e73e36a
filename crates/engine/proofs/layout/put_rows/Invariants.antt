use Rattle.std.proofs.Common.{◌≡◌, ◌++◌, take}
use Rattle.std.specs.FinMap.{entries}
use Rattle.inno_db.specs.Database.{placed}
use Rattle.engine.proofs.layout.put_rows.Given as goal

-- the rows so far stand behind those that were there
abbrev pub invariant-loop-row : goal.invariant-loop-row
invariant-loop-row l = record {
  schemas : l.opening.schemas ≡ l.fn.opening.schemas;
  rows : entries l.opening.rows ≡ entries l.fn.opening.rows ++ placed l.table l.schema (take l.row-index l.rows);
}
