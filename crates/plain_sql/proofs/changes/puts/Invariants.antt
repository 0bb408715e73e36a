use Rattle.std.proofs.Common.{◌≡◌, map}
use Rattle.inno_db.specs.declared.change.Change.TheVariants.{Put}
use Rattle.plain_sql.proofs.changes.puts.Given as goal

-- a change for each row so far
abbrev pub invariant-loop-row : goal.invariant-loop-row
invariant-loop-row l = l.changes.items ≡ map (λ row. Put l.table row) l.yielded
