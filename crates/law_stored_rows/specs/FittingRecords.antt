-- What an index keeps of a row besides its clustered record.
use Rattle.std.specs.Prelude.{◌≡◌, ℕ, List, Some, slice_get}
use Rattle.inno_types.specs.{declared.value.Value.Value, declared.value.Column.Column, declared.value.Key.Key, declared.value.Schema.Schema}
use Rattle.key_codec.specs.Keys.{IsOfKindOrNull, entry_code}
use Rattle.row_codec.specs.Rows.{IsKeyOf}
pub use Rattle.law_stored_rows.specs.Entries.{value_in}

-- These bytes are the row's entry in a secondary key: its value in the key's column is one of that column or NULL, and
-- stands before the primary key.
pub record IsEntryOf (schema : Schema) (key : Key) (row : List Value) (bytes : List ℕ) : Type 0 where
  pub column : Column
  pub there : slice_get schema.columns key.column ≡ Some column
  pub of_kind : IsOfKindOrNull column.kind (value_in key.column row)
  pub primary : List ℕ
  pub primary_is : IsKeyOf schema row primary
  pub spelled : bytes ≡ entry_code column.kind (value_in key.column row) primary
