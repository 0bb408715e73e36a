use Rattle.std.proofs.Common.{◌≡◌, ◌++◌, map, take}
use Rattle.inno_db.specs.declared.change.Change.TheVariants.{Put}
use Rattle.run_outcome.proofs.copies.push_puts.Given as goal

abbrev pub invariant-loop-row : goal.invariant-loop-row
invariant-loop-row l = (l.changes.items ≡ l.fn.changes.items ++ map (Put l.table) (take l.row-index l.row-items)) × (l.row-items ≡ l.rows)
