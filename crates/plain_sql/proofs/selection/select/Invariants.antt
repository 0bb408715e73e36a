use Rattle.std.proofs.Common.{◌≡◌, map, take}
use Rattle.inno_db.specs.Outcome.{selected_of, matching}
use Rattle.plain_sql.proofs.selection.select.Given as goal

-- what is given of the rows so far
abbrev pub invariant-loop-row : goal.invariant-loop-row
invariant-loop-row l =
    l.given.items ≡ map (selected_of l.columns l.selected) (matching l.columns l.filter (take l.row-index l.rows))
