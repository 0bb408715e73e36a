-- The entry of a row in a secondary key of its table.
use Rattle.std.specs.Prelude.{ℕ, ◌+◌, ◌-◌, ◌<◌, ◌≤◌, List, length, Option, None, Some, slice_get, slice_index_or}
use Rattle.inno_types.specs.declared.value.Kind.{Kind}
use Rattle.inno_types.specs.declared.value.Kind.TheVariants.{BigInt}
use Rattle.inno_types.specs.declared.value.Value.{Value}
use Rattle.inno_types.specs.declared.value.Value.TheVariants.{Null}
use Rattle.inno_types.specs.declared.value.Column.{Column}
use Rattle.inno_types.specs.declared.value.Key.{Key}
use Rattle.inno_types.specs.declared.value.Schema.{Schema}
use Rattle.key_codec.specs.Keys.{key_width, entry_front, entry_code}
use Rattle.row_codec.specs.Rows.{field_code}

abbrev pub place_if : Option Key → ℕ
place_if None = 0
place_if (Some key) = key.column

-- the place of the column that the key of this number is on; keys count from 1
abbrev pub place_of : Schema → ℕ → ℕ
place_of schema which = place_if (slice_get schema.keys (which - 1))

-- The table has a key of this number, and its column.
pub record HasSecondary (schema : Schema) (which : ℕ) : Type 0 where
  pub counted : 0 < which
  pub keyed : which ≤ length schema.keys
  pub there : place_of schema which < length schema.columns

abbrev pub kind_if : Option Column → Kind
kind_if None = BigInt
kind_if (Some column) = column.kind

abbrev pub kind_at : List Column → ℕ → Kind
kind_at columns place = kind_if (slice_get columns place)

-- the bytes of a column's field: a flag and the value
abbrev pub field_width : Column → ℕ
field_width column = 1 + key_width column.kind

-- the field of a row in the column at this place
abbrev pub field_in : List Column → ℕ → List Value → List ℕ
field_in columns place row = field_code (kind_at columns place) (slice_index_or row place Null)

-- what stands before the primary key in the entry of a row in a key on the column at this place
abbrev pub front_at : List Column → ℕ → List Value → List ℕ
front_at columns place row = entry_front (kind_at columns place) (slice_index_or row place Null)

-- the entry of a row with this primary key
abbrev pub entry_of : Schema → ℕ → List Value → List ℕ → List ℕ
entry_of schema which row primary = entry_code (kind_at schema.columns (place_of schema which)) (slice_index_or row (place_of schema which) Null) primary
