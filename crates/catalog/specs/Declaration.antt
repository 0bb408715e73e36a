-- Which schemas some CREATE TABLE declares.
use Rattle.std.specs.Prelude.{◌≡◌, Bool, true, ◌&&◌, nat_le, List, Some, None}
use Rattle.std.specs.List.{list_all}
use Rattle.inno_types.specs.declared.value.Schema.{Schema}
use Rattle.inno_types.specs.declared.stmt.DeclaredKind.{DeclaredKind}
use Rattle.inno_types.specs.declared.stmt.DeclaredKind.TheVariants as declared
use Rattle.inno_types.specs.declared.stmt.Definition.{Definition}
use Rattle.inno_types.specs.declared.stmt.Definition.TheVariants as definition
use Rattle.inno_db.specs.Declarations.{schema_declared}
use Rattle.catalog.specs.Makeable.{is_name}

-- a size is kept where it fits a byte
abbrev pub has_byte : DeclaredKind → Bool
has_byte declared.BigInt = true
has_byte (declared.VarBinary None) = true
has_byte (declared.VarBinary (Some size)) = nat_le size 255

-- a definition that a text can have: the names that it gives have 1 to 64 bytes
abbrev pub can_be_written : Definition → Bool
can_be_written (definition.Column name kind nullable primary) = is_name name && has_byte kind
can_be_written (definition.Primary column) = true
can_be_written (definition.Key None column) = true
can_be_written (definition.Key (Some name) column) = is_name name

-- A CREATE TABLE of these definitions makes the schema.
pub record IsDeclared (s : Schema) : Type 0 where
  pub definitions : List Definition
  pub named : is_name s.name ≡ true
  pub written : list_all can_be_written definitions ≡ true
  pub declared : schema_declared s.name definitions ≡ Some s
