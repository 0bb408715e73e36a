-- What becomes of a row, and the version that comes of it.
use Rattle.std.specs.Prelude.{◌≡◌, ℕ, true, false, All, List, Option, None, Some, slice_get}
use Rattle.inno_types.specs.{declared.value.Column.Column, declared.value.Schema.Schema, declared.value.Value.Value}
use Rattle.inno_db.specs.declared.change.Change.{Change}
use Rattle.store_api.specs.{declared.answers.Version.Version, declared.moves.Move.Move, declared.moves.Move.TheVariants.End}
use Rattle.entries.specs.{Index.Index, Index.Told, Pairs.value_of}
use Rattle.key_codec.specs.Keys.{HasKey, Has64Bits, key_code}
use Rattle.row_codec.specs.Rows.{IsKeyOf}
use Rattle.law_stored_rows.specs.{Fitting.FitsTable, Records.IsCodeOf}
use Rattle.row_changes.specs.{declared.row_edit.RowEdit.RowEdit, declared.row_edit.RowEdit.TheVariants.Put, declared.row_edit.RowEdit.TheVariants.Remove}
use Rattle.inno_db.specs.declared.change.Change.TheVariants as changes

-- as the history tells it
abbrev pub change_of : ℕ → RowEdit → Change
change_of table (Put row) = changes.Put table row
change_of table (Remove key) = changes.Remove table key

-- how many rows it puts
abbrev pub rows_put : RowEdit → ℕ
rows_put (Put row) = 1
rows_put (Remove key) = 0

-- a row that fits the table, and has this key
pub record IsRowFor (schema : Schema) (row : List Value) (key : List ℕ) : Type 0 where
  pub fits : FitsTable schema row
  pub numbers : All Has64Bits row
  pub key_is : IsKeyOf schema row key

-- the bytes are the key of this value of the primary column
pub record IsKeyAt (schema : Schema) (value : Value) (key : List ℕ) : Type 0 where
  pub column : Column
  pub primary : slice_get schema.columns schema.primary ≡ Some column
  pub has_key : HasKey column.kind value
  pub spelled : key ≡ key_code column.kind value

-- A row of the table is put at its key, or the one that stands at a key is removed.
abbrev pub FitsEdit : Schema → RowEdit → List ℕ → Type 0
FitsEdit schema (Put row) key = IsRowFor schema row key
FitsEdit schema (Remove value) key = IsKeyAt schema value key

abbrev pub IsPut : RowEdit → Type 0
IsPut (Put row) = Unit {0}
IsPut (Remove value) = ⊥

-- what is removed is a row, not a version that is marked already
abbrev pub FindsRow : RowEdit → Version → Type 0
FindsRow (Put row) former = Unit {0}
FindsRow (Remove value) former = former.marked ≡ false

-- The version of a row that is put; or that of a row that is removed, which is the row once more, and marked.
abbrev pub version_by : RowEdit → List Value → ℕ → ℕ → Version
version_by (Put row) former writer pointer = record { row = row; writer = writer; pointer = pointer; marked = false }
version_by (Remove value) former writer pointer = record { row = former; writer = writer; pointer = pointer; marked = true }

-- the key has no record, or that of a marked version
abbrev pub HasNoRow : Schema → List ℕ → Option (List ℕ) → Type 0
HasNoRow schema key None = Unit {0}
HasNoRow schema key (Some bytes) = (former : Version) × IsCodeOf schema key bytes former × (former.marked ≡ true)

-- the answer says that no row is there that could be removed
abbrev pub LacksRow : RowEdit → Schema → List ℕ → Index → Move → Type 0
LacksRow (Remove value) schema key index End = Told (λ pairs. HasNoRow schema key (value_of key pairs)) index
LacksRow edit schema key index why = ⊥
