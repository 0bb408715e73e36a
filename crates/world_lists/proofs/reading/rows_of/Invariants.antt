use Rattle.std.proofs.Common.{◌≡◌, map}
use Rattle.row_search.specs.declared.found.FoundRow.{FoundRow}
use Rattle.world_lists.proofs.reading.rows_of.Given as goal

-- the rows so far
abbrev pub invariant-loop-row : goal.invariant-loop-row
invariant-loop-row l = l.rows.items ≡ map (λ (f : FoundRow). f.row) l.yielded
