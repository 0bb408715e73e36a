-- The keys that a row has in the indexes of its table.
use Rattle.std.specs.Prelude.{◌≡◌, ℕ, ◌-◌, ◌==◌, Bool, ◌&&◌, List, [], Option, Some, None, if◌then◌else◌, slice_get, slice_index_or}
use Rattle.std.specs.List.{list_all}
use Rattle.inno_types.specs.declared.value.Value.{Value}
use Rattle.inno_types.specs.declared.value.Value.TheVariants.{Null}
use Rattle.inno_types.specs.declared.value.Kind.{Kind}
use Rattle.inno_types.specs.declared.value.Kind.TheVariants.{BigInt}
use Rattle.inno_types.specs.declared.value.Column.{Column}
use Rattle.inno_types.specs.declared.value.Key.{Key}
use Rattle.inno_types.specs.declared.value.Schema.{Schema}
use Rattle.inno_db.specs.Database.{key_of}
use Rattle.inno_db.specs.Declarations.{is_indexable}
use Rattle.key_codec.specs.Keys.{HasEntry, key_code, entry_code}

abbrev pub kind_if : Option Column → Kind
kind_if None = BigInt
kind_if (Some column) = column.kind

abbrev pub kind_at : List Column → ℕ → Kind
kind_at columns place = kind_if (slice_get columns place)

-- the key of a row in the clustered index
abbrev pub primary_key : Schema → List Value → List ℕ
primary_key schema row = key_code (kind_at schema.columns schema.primary) (key_of schema row)

-- the entry of a row in the index of a secondary key
abbrev pub entry_if : Schema → List Value → Option Key → List ℕ
entry_if schema row None = []
entry_if schema row (Some key) = entry_code (kind_at schema.columns key.column) (slice_index_or row key.column Null) (primary_key schema row)

-- the key of a row in the index of this number
abbrev pub index_key : Schema → ℕ → List Value → List ℕ
index_key schema which row = if which == 0 then primary_key schema row else entry_if schema row (slice_get schema.keys (which - 1))

abbrev pub value_if : List Value → Option Key → Value
value_if row None = Null
value_if row (Some key) = slice_index_or row key.column Null

-- the value of a row in the column that leads the index of this number
abbrev pub leading_value : Schema → ℕ → List Value → Value
leading_value schema which row = if which == 0 then key_of schema row else value_if row (slice_get schema.keys (which - 1))

-- the columns of all indexes are there, and short enough
abbrev pub are_indexable : Schema → Bool
are_indexable schema = is_indexable (slice_get schema.columns schema.primary) && list_all (λ key. is_indexable (slice_get schema.columns key.column)) schema.keys

-- a row of these columns: each value is NULL or of its column's kind and size
pub record IsRowOf (columns : List Column) (row : List Value) : Type 0 where
  pub fits : (place : ℕ) (column : Column) → slice_get columns place ≡ Some column → HasEntry column.kind (slice_index_or row place Null)
