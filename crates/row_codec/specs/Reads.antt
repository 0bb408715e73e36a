-- What is read from the front of the bytes of a record.
use Rattle.std.specs.Prelude.{◌≡◌, ℕ, List, ◌++◌}
use Rattle.inno_types.specs.declared.value.Column.{Column}
use Rattle.inno_types.specs.declared.value.Value.{Value}
use Rattle.row_codec.specs.Rows.{IsRowOf, fields_code}

-- The bytes are the fields of these columns with these values, and then the rest.
pub record Reads (columns : List Column) (bytes : List ℕ) (values : List Value) (rest : List ℕ) : Type 0 where
  pub fits : IsRowOf columns values
  pub spelled : bytes ≡ fields_code columns values ++ rest
