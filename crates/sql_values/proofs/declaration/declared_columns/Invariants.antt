use Rattle.std.proofs.Common.{◌≡◌, take}
use Rattle.std.specs.Prelude.{flat_map}
use Rattle.inno_db.specs.Declarations.{column_of}
use Rattle.sql_values.proofs.declaration.declared_columns.Given as goal

-- what the definitions so far declare
abbrev pub invariant-loop-definition : goal.invariant-loop-definition
invariant-loop-definition l = l.columns.items ≡ flat_map (column_of l.primary) (take l.definition-index l.definitions)
