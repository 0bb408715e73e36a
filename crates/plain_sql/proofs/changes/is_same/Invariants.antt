use Rattle.std.proofs.Common.{◌≡◌, length, drop}
use Rattle.inno_db.specs.Outcome.{is_same_row}
use Rattle.plain_sql.proofs.changes.is_same.Given as goal

-- the values that are left decide
abbrev pub invariant-loop-place : goal.invariant-loop-place
invariant-loop-place l =
    (length l.a ≡ length l.b) × (is_same_row (drop l.place l.a) (drop l.place l.b) ≡ is_same_row l.a l.b)
