-- Which tables can be stored: each row has a key, and what an index is given is not too long for it. An index takes keys
-- of at most 67 bytes and values of at most 1,024.
use Rattle.std.specs.Prelude.{◌≡◌, ◌≤◌, ℕ, ◌+◌, true, List, All, Some, length, remove, slice_get, sum_by}
use Rattle.inno_types.specs.{declared.value.Kind.Kind, declared.value.Column.Column, declared.value.Key.Key, declared.value.Schema.Schema}
use Rattle.inno_db.specs.declared.limits.TheConstants.{MOST_KEYS}
use Rattle.key_codec.specs.Keys.{key_width}

-- the bytes of an entry of a secondary key: one that tells NULL, the value's key, and the primary key
abbrev pub entry_width : Kind → Kind → ℕ
entry_width kind primary = 1 + key_width kind + key_width primary

-- the bytes of the value of a clustered record: mark, writer and roll pointer, and a field for each column but the primary one
abbrev pub record_width : Schema → ℕ
record_width schema = 17 + sum_by (λ column. 1 + key_width column.kind) (remove schema.columns schema.primary)

-- A secondary key is on a column that is there, and its entries are short.
pub record IsKeyOn (columns : List Column) (primary : Kind) (key : Key) : Type 0 where
  pub column : Column
  pub there : slice_get columns key.column ≡ Some column
  pub short : entry_width column.kind primary ≤ 67

-- The primary column is there, takes no NULL and has short keys; secondary keys are few and have short entries; and the
-- values of records are short.
pub record IsStorable (schema : Schema) : Type 0 where
  pub column : Column
  pub primary : slice_get schema.columns schema.primary ≡ Some column
  pub not_null : column.not_null ≡ true
  pub short : key_width column.kind ≤ 33
  pub few : length schema.keys ≤ MOST_KEYS
  pub keys : All (IsKeyOn schema.columns column.kind) schema.keys
  pub record_short : record_width schema ≤ 1024

-- each of these tables
abbrev pub AreStorable : List Schema → Type 0
AreStorable schemas = (n : ℕ) (schema : Schema) → slice_get schemas n ≡ Some schema → IsStorable schema
