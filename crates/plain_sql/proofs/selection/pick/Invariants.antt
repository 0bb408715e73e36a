use Rattle.std.proofs.Common.{◌≡◌, map, take}
use Rattle.inno_db.specs.Names.{column_value}
use Rattle.plain_sql.proofs.selection.pick.Given as goal

-- the values of the names so far
abbrev pub invariant-loop-name : goal.invariant-loop-name
invariant-loop-name l = l.values.items ≡ map (column_value l.columns l.row) (take l.name-index l.names)
