use Rattle.std.proofs.Common.{◌≡◌, take}
use Rattle.inno_db.specs.Outcome.{deleted, matching}
use Rattle.plain_sql.proofs.changes.delete.Given as goal

-- what is deleted of the rows so far
abbrev pub invariant-loop-row : goal.invariant-loop-row
invariant-loop-row l =
    l.changes.items ≡ deleted l.table l.schema (matching l.schema.columns l.filter (take l.row-index l.rows))
