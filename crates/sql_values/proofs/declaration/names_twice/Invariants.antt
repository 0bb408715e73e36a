use Rattle.std.proofs.Common.{◌≡◌, drop}
use Rattle.inno_db.specs.Declarations.{has_twins}
use Rattle.sql_values.proofs.declaration.names_twice.Given as goal

-- the columns that are left decide
abbrev pub invariant-loop-place : goal.invariant-loop-place
invariant-loop-place l = has_twins (drop l.place l.columns) ≡ has_twins l.columns
