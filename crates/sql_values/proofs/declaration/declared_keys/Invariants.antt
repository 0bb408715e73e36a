use Rattle.std.proofs.Common.{◌≡◌, take}
use Rattle.std.specs.Prelude.{flat_map}
use Rattle.inno_db.specs.Declarations.{key_of}
use Rattle.sql_values.proofs.declaration.declared_keys.Given as goal

-- what the definitions so far declare
abbrev pub invariant-loop-definition : goal.invariant-loop-definition
invariant-loop-definition l = l.keys.items ≡ flat_map (key_of l.columns) (take l.definition-index l.definitions)
