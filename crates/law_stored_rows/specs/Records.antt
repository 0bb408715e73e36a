-- What a clustered record says of its row: the newest version, and by roll pointers those before it.
use Rattle.std.specs.Prelude.{◌≡◌, ◌≢◌, ◌==◌, ◌&&◌, if◌then◌else◌, ℕ, Bool, true, false, List, [], ◌∷◌, Option, None, Some, slice_get, is_some, All}
use Rattle.std.specs.Ordering.{is_eq}
use Rattle.inno_types.specs.{declared.value.Value.Value, declared.value.Column.Column, declared.value.Kind.Kind, declared.value.Schema.Schema}
use Rattle.store_api.specs.declared.answers.Version.{Version as Coded}
use Rattle.inno_db.specs.Database.{key_of}
use Rattle.key_codec.specs.Keys.{HasKey, Has64Bits, key_code}
use Rattle.row_codec.specs.Rows.{IsRowOf, IsRecordOf, IsVersion}
use Rattle.entries.specs.Pairs.{Pair, AreRising, key_cmp, value_of}
use Rattle.row_versions.specs.{declared.kept.Kept.Kept, declared.version.Version.Version}

-- A marked version is a row that was deleted: readers find no row there.
abbrev pub row_shown : Bool → List Value → Option (List Value)
row_shown true row = None
row_shown false row = Some row

-- a version as readers of rows have it
abbrev pub shown : Coded → Version
shown coded = record { writer = coded.writer; row = row_shown coded.marked coded.row }

-- These bytes are the record of this version at this key.
pub record IsCodeOf (schema : Schema) (key bytes : List ℕ) (coded : Coded) : Type 0 where
  pub record_is : IsRecordOf schema coded key bytes
  pub numbers : IsVersion coded

-- What was found for the pointer is a version that readers see so, beside its record.
pub record IsKeptAs (schema : Schema) (key : List ℕ) (kept : ℕ → Option Kept) (pointer : ℕ) (found : Kept) (version : Version) : Type 0 where
  pub leads : pointer ≢ 0
  pub there : kept pointer ≡ Some found
  pub code_is : IsCodeOf schema key found.bytes found.version
  pub shown_is : shown found.version ≡ version

-- From this pointer on these versions are kept, the newest first.
abbrev pub LeadTo : Schema → List ℕ → (ℕ → Option Kept) → ℕ → List Version → Type 0
LeadTo schema key kept pointer [] = pointer ≡ 0
LeadTo schema key kept pointer (version ∷ older) =
    (found : Kept) × IsKeptAs schema key kept pointer found version × LeadTo schema key kept found.version.pointer older

-- No record stands for no versions; a record for its own and those that its pointer leads to.
abbrev pub IsRecordWith : Schema → List ℕ → (ℕ → Option Kept) → Option (List ℕ) → List Version → Type 0
IsRecordWith schema key kept None [] = Unit {0}
IsRecordWith schema key kept None (version ∷ older) = ⊥
IsRecordWith schema key kept (Some bytes) [] = ⊥
IsRecordWith schema key kept (Some bytes) (version ∷ older) =
    (coded : Coded) × IsCodeOf schema key bytes coded × (shown coded ≡ version) × LeadTo schema key kept coded.pointer older

-- what was found, where it is of the row at this key of the table
abbrev pub if_of : ℕ → List ℕ → Option Kept → Option Kept
if_of table key None = None
if_of table key (Some found) = if found.table == table && is_eq (key_cmp key found.key) then Some found else None

-- of what is kept, the versions of the row at this key of the table
abbrev pub kept_of : (ℕ → Option Kept) → ℕ → List ℕ → ℕ → Option Kept
kept_of kept table key pointer = if_of table key (kept pointer)

-- the key of some value of this kind
abbrev pub IsSomeKey : Kind → List ℕ → Type 0
IsSomeKey kind key = (value : Value) × HasKey kind value × (key ≡ key_code kind value)

-- The pairs of a table's clustered index are the records of these rows: at each value of the primary key its versions. Those
-- that a record leads to are kept as versions of its own row.
pub record IsClustered (table : ℕ) (schema : Schema) (kept : ℕ → Option Kept) (pairs : List Pair) (versions_at : Value → List Version) : Type 0 where
  pub primary : Column
  pub primary_is : slice_get schema.columns schema.primary ≡ Some primary
  pub rising : AreRising pairs
  pub keys : (key : List ℕ) → is_some (value_of key pairs) ≡ true → IsSomeKey primary.kind key
  pub records : (value : Value) → HasKey primary.kind value
      → IsRecordWith schema (key_code primary.kind value) (kept_of kept table (key_code primary.kind value))
      (value_of (key_code primary.kind value) pairs) (versions_at value)
  pub nowhere_else : (value : Value) → versions_at value ≢ [] → HasKey primary.kind value

-- whatever was kept is kept still
abbrev pub KeepsMore : (ℕ → Option Kept) → (ℕ → Option Kept) → Type 0
KeepsMore old new = (pointer : ℕ) (found : Kept) → old pointer ≡ Some found → new pointer ≡ Some found

-- The row is one of the table, and its primary value is this one.
pub record IsRowAt (schema : Schema) (value : Value) (row : List Value) : Type 0 where
  pub fits : IsRowOf schema.columns row
  pub bits : All Has64Bits row
  pub key_is : key_of schema row ≡ value
