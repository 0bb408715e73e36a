use Rattle.std.proofs.Common.{◌≡◌, ◌++◌, drop, Ok}
use Rattle.inno_db.specs.Expressions.{and_then}
use Rattle.inno_db.specs.Storing.{values_from}
use Rattle.sql_values.proofs.storing.make_row.Given as goal

-- the values so far, and those that are left, are the row
abbrev pub invariant-loop-place : goal.invariant-loop-place
invariant-loop-place l =
    and_then (values_from l.names l.tuple l.place (drop l.place l.columns)) (λ rest. Ok (l.values.items ++ rest))
    ≡ values_from l.names l.tuple 0 l.columns
