use Rattle.std.proofs.Common.{◌≡◌, take}
use Rattle.inno_types.proofs.listed.Listed+Row.copied.Given as goal

-- the rows before the place are copied
abbrev pub invariant-loop-row : goal.invariant-loop-row
invariant-loop-row l = l.rows.items ≡ take l.row-index l.row-items
