use Rattle.std.proofs.Common.{◌≡◌, take}
use Rattle.std.specs.Prelude.{flat_map}
use Rattle.inno_db.specs.Declarations.{primary_of}
use Rattle.sql_values.proofs.declaration.declared_primaries.Given as goal

-- what the definitions so far declare
abbrev pub invariant-loop-definition : goal.invariant-loop-definition
invariant-loop-definition l = l.names.items ≡ flat_map (primary_of) (take l.definition-index l.definitions)
