-- How long the keys and the values of an index are: all keys are equally long, and so are all values, as its table's schema says.
use Rattle.std.specs.Prelude.{◌≡◌, ℕ, zero, suc, ◌+◌, List, length, slice_get, remove, sum_by, Option, None, Some}
use Rattle.inno_types.specs.{declared.value.Column.Column, declared.value.Key.Key, declared.value.Schema.Schema}
use Rattle.key_codec.specs.Keys.{key_width}
use Rattle.world.specs.State.{IsIndex}

abbrev pub width_if : Option Column → ℕ
width_if None = 0
width_if (Some column) = key_width column.kind

-- how long the key of a value of the column at this place is
abbrev pub width_at : Schema → ℕ → ℕ
width_at schema place = width_if (slice_get schema.columns place)

-- an entry has a flag, its value's key, and the key of its row's record
abbrev pub entry_len : Schema → Option Key → ℕ
entry_len schema None = 0
entry_len schema (Some key) = 1 + width_at schema key.column + width_at schema schema.primary

-- The first index of a table has the keys of its records, and the others have the entries of its keys in order.
abbrev pub key_len : Schema → ℕ → ℕ
key_len schema zero = width_at schema schema.primary
key_len schema (suc which) = entry_len schema (slice_get schema.keys which)

-- The value of a record has 17 bytes, and then a field for each other column; that of an entry is its mark.
abbrev pub value_len : Schema → ℕ → ℕ
value_len schema zero = 17 + sum_by (λ column. 1 + key_width column.kind) (remove schema.columns schema.primary)
value_len schema (suc which) = 1

-- the key is as long as those of the index
pub record HasKeyLen (schemas : List Schema) (index : ℕ) (key : List ℕ) : Type 0 where
  pub as_said : (is : IsIndex schemas index) → length key ≡ key_len is.schema is.which

-- the value is as long as those of the index
pub record HasValueLen (schemas : List Schema) (index : ℕ) (value : List ℕ) : Type 0 where
  pub as_said : (is : IsIndex schemas index) → length value ≡ value_len is.schema is.which
