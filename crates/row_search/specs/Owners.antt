-- Whether a key of an index is that of a row.
use Rattle.std.specs.Prelude.{◌≡◌, ◌≢◌, ℕ, ◌+◌, Bool, true, false, List, Some, slice_get}
use Rattle.inno_types.specs.{declared.value.Value.Value, declared.value.Column.Column, declared.value.Key.Key, declared.value.Kind.Kind}
use Rattle.inno_types.specs.{declared.value.Schema.Schema}
use Rattle.key_codec.specs.Keys.{IsOfKindOrNull, entry_code}
use Rattle.law_stored_rows.specs.Entries.{value_in}

-- the answer says whether these are the same bytes
abbrev pub TellsSame : List ℕ → List ℕ → Bool → Type 0
TellsSame bytes other true = bytes ≡ other
TellsSame bytes other false = bytes ≢ other

-- of a value that the column may hold
abbrev pub IsEntryOf : Kind → Value → List ℕ → List ℕ → Bool → Type 0
IsEntryOf kind value primary entry own = IsOfKindOrNull kind value → TellsSame (entry_code kind value primary) entry own

-- the answer for an index of this number: all keys of the clustered index are those of rows
pub record IsOwner (schema : Schema) (which : ℕ) (primary entry : List ℕ) (row : List Value) (own : Bool) : Type 0 where
  pub clustered : which ≡ 0 → own ≡ true
  pub keyed : (at : ℕ) (key : Key) (indexed : Column) → which ≡ 1 + at → slice_get schema.keys at ≡ Some key
      → slice_get schema.columns key.column ≡ Some indexed
      → IsEntryOf indexed.kind (value_in key.column row) primary entry own
