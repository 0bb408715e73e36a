-- An undo record as it lies on a page: its length, its kind, the table's number, the length of the key, the key, the value
-- that stood there before, and the length again.
use Rattle.std.specs.Prelude.{◌≡◌, ℕ, ◌+◌, ◌-◌, ◌≤◌, List, [], ◌∷◌, ◌++◌, length, take, drop, slice_index}
use Rattle.schema_codec.specs.Numbers.{u16_bytes}
use Rattle.stored_pages.specs.Words.{u16_at}
use Rattle.undo_log.specs.declared.layout.TheConstants.{BESIDE, INSERTION, CHANGE}
use Rattle.undo_log.specs.declared.record.Undone.{Undone}
use Rattle.undo_log.specs.declared.record.Undone.TheVariants.{Insertion, Change}

-- how long a record is
abbrev pub record_length : List ℕ → List ℕ → ℕ
record_length key value = BESIDE + length key + length value

-- the number of a kind
abbrev pub kind_of : Undone → ℕ
kind_of Insertion = INSERTION
kind_of Change = CHANGE

-- the bytes of a record
abbrev pub record_bytes : Undone → ℕ → List ℕ → List ℕ → List ℕ
record_bytes undone table key value =
    u16_bytes (record_length key value) ++ ((kind_of undone ∷ table ∷ length key ∷ []) ++ (key ++ (value ++ u16_bytes (record_length key value))))

-- what an insertion takes back has no value before it
abbrev pub HasValue : Undone → List ℕ → Type 0
HasValue Insertion value = value ≡ []
HasValue Change value = Unit {0}

-- At this place of the bytes stands that record.
pub record StandsAt (bytes : List ℕ) (at : ℕ) (undone : Undone) (table : ℕ) (key value : List ℕ) : Type 0 where
  pub inside : at + record_length key value ≤ length bytes
  pub long : u16_at at bytes ≡ record_length key value
  pub kind : slice_index bytes (at + 2) ≡ kind_of undone
  pub table_is : slice_index bytes (at + 3) ≡ table
  pub key_long : slice_index bytes (at + 4) ≡ length key
  pub key_is : take (length key) (drop (at + 5) bytes) ≡ key
  pub value_is : take (length value) (drop (at + 5 + length key) bytes) ≡ value
  pub has_value : HasValue undone value
  pub again : u16_at (at + record_length key value - 2) bytes ≡ record_length key value
