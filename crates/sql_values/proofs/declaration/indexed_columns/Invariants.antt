use Rattle.std.proofs.Common.{◌≡◌, take}
use Rattle.std.specs.Prelude.{flat_map}
use Rattle.inno_db.specs.Declarations.{key_column_of}
use Rattle.sql_values.proofs.declaration.indexed_columns.Given as goal

-- what the definitions so far declare
abbrev pub invariant-loop-definition : goal.invariant-loop-definition
invariant-loop-definition l = l.names.items ≡ flat_map (key_column_of) (take l.definition-index l.definitions)
