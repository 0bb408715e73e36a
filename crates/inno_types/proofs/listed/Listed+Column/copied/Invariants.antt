use Rattle.std.proofs.Common.{◌≡◌, take}
use Rattle.inno_types.proofs.listed.Listed+Column.copied.Given as goal

-- the columns before the place are copied
abbrev pub invariant-loop-column : goal.invariant-loop-column
invariant-loop-column l = l.columns.items ≡ take l.column-index l.column-items
