-- What the entries of a secondary key say of the versions of rows.
use Rattle.std.specs.Prelude.{◌≡◌, ◌⊎◌, ℕ, Bool, true, false, not, if◌then◌else◌, List, [], ◌∷◌, Option, None, Some, slice_get, slice_index_or, is_some}
use Rattle.std.specs.List.{list_any}
use Rattle.std.specs.Ordering.{is_eq}
use Rattle.inno_types.specs.{declared.value.Value.Value, declared.value.Value.TheVariants.Null, declared.value.Column.Column, declared.value.Kind.Kind}
use Rattle.inno_types.specs.{declared.value.Schema.Schema}
use Rattle.inno_db.specs.Database.{value_cmp}
use Rattle.key_codec.specs.Keys.{HasKey, HasEntry, key_code, entry_code}
use Rattle.row_codec.specs.Rows.{mark_code}
use Rattle.entries.specs.Pairs.{Pair, AreRising, value_of}
use Rattle.row_versions.specs.{declared.version.Version.Version, Chains.newest}

abbrev pub is_same_value : Value → Value → Bool
is_same_value value other = is_eq (value_cmp value other)

-- the row's value in a column
abbrev pub value_in : ℕ → List Value → Value
value_in column row = slice_index_or row column Null

-- whether there is a row, with this value in the column
abbrev pub has_value : ℕ → Value → Option (List Value) → Bool
has_value column value None = false
has_value column value (Some row) = is_same_value value (value_in column row)

-- What the entry with this value holds: a mark, and no mark exactly where the newest version has the value. There is no
-- such entry where no version has it.
abbrev pub entry_of : ℕ → Value → List Version → Option (List ℕ)
entry_of column value versions =
    if list_any (λ version. has_value column value version.row) versions
    then Some (mark_code (not (has_value column value (newest versions))) ∷ [])
    else None

-- the entry of some value at some key
abbrev pub IsSomeEntry : Kind → Kind → List ℕ → Type 0
IsSomeEntry primary kind entry =
    (key : Value) × (value : Value) × HasKey primary key × HasEntry kind value × (entry ≡ entry_code kind value (key_code primary key))

-- The entry holds what is said of it, or it stands marked where nothing is said: no version has it any more.
abbrev pub MayHold : Option (List ℕ) → Option (List ℕ) → Type 0
MayHold found said = (found ≡ said) ⊎ ((said ≡ None) × (found ≡ Some (1 ∷ [])))

-- The pairs of the index of a key on this column are the entries of these rows.
pub record HasEntries (schema : Schema) (column : ℕ) (entries : List Pair) (versions_at : Value → List Version) : Type 0 where
  pub primary : Column
  pub primary_is : slice_get schema.columns schema.primary ≡ Some primary
  pub indexed : Column
  pub indexed_is : slice_get schema.columns column ≡ Some indexed
  pub rising : AreRising entries
  pub each : (entry : List ℕ) → is_some (value_of entry entries) ≡ true → IsSomeEntry primary.kind indexed.kind entry
  pub marks : (key value : Value) → HasKey primary.kind key → HasEntry indexed.kind value
      → MayHold (value_of (entry_code indexed.kind value (key_code primary.kind key)) entries) (entry_of column value (versions_at key))

-- for the entries of all values these versions and those are the same
abbrev pub TellAlike : ℕ → List Version → List Version → Type 0
TellAlike column versions others = (value : Value) → entry_of column value versions ≡ entry_of column value others

-- the same, for all values but one
abbrev pub TellAlikeBut : Value → ℕ → List Version → List Version → Type 0
TellAlikeBut but column versions others =
    (value : Value) → is_same_value but value ≡ false → entry_of column value versions ≡ entry_of column value others
