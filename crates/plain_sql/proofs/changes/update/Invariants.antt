use Rattle.std.proofs.Common.{◌≡◌, drop}
use Rattle.inno_db.specs.Outcome.{updated, matching}
use Rattle.plain_sql.proofs.Writing.{after_all}
use Rattle.plain_sql.proofs.changes.update.Given as goal

-- the changes so far, and then those of the rows that are left, are all that is updated
abbrev pub invariant-loop-row : goal.invariant-loop-row
invariant-loop-row l =
    after_all l.changes.items (updated l.table l.schema l.sets (matching l.schema.columns l.filter (drop l.row-index l.rows)))
    ≡ updated l.table l.schema l.sets (matching l.schema.columns l.filter l.rows)
