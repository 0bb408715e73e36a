-- When indexes and kept versions are the rows of all tables, and what keys say of rows while changes are under way.
use Rattle.std.specs.Prelude.{◌≡◌, ℕ, ◌<◌, ◌≤◌, ◌==◌, ◌&&◌, true, false, if◌then◌else◌, List, [], length, Option, None, Some, slice_get}
use Rattle.std.specs.List.{list_any}
use Rattle.inno_types.specs.{declared.value.Value.Value, declared.value.Column.Column, declared.value.Key.Key, declared.value.Schema.Schema}
use Rattle.inno_db.specs.Database.{key_of}
use Rattle.entries.specs.Pairs.{Pair}
use Rattle.row_versions.specs.{declared.kept.Kept.Kept, declared.place.Place.Place, declared.version.Version.Version, Chains.Chains, Chains.versions_at}
use Rattle.row_versions.specs.{Chains.is_same_place, Chains.older}
use Rattle.law_stored_rows.specs.{Edits.clustered_index, Edits.key_index, Entries.HasEntries, Entries.has_value, Records.IsClustered}

-- the place of a row in a table
abbrev pub place_in : ℕ → Schema → List Value → Place
place_in table schema row = record { table = table; key = key_of schema row }

-- the versions of a table's rows
abbrev pub in_table : ℕ → Chains → Value → List Version
in_table table chains value = versions_at (record { table = table; key = value }) chains

-- Its primary column is there, and so is the column of each of its keys, of which it has four at most.
pub record HasItsColumns (schema : Schema) : Type 0 where
  pub primary : Column
  pub primary_is : slice_get schema.columns schema.primary ≡ Some primary
  pub few : length schema.keys ≤ 4
  pub keys : (which : ℕ) (key : Key) → slice_get schema.keys which ≡ Some key → (column : Column) × (slice_get schema.columns key.column ≡ Some column)

-- The clustered indexes hold the rows of all tables, and there are no other rows.
pub record AreClustered (schemas : List Schema) (indexes : ℕ → List Pair) (kept : ℕ → Option Kept) (chains : Chains) : Type 0 where
  pub tables : (table : ℕ) (schema : Schema) → slice_get schemas table ≡ Some schema
      → IsClustered table schema kept (indexes (clustered_index table)) (in_table table chains)
  pub nowhere_else : (table : ℕ) (value : Value) → slice_get schemas table ≡ None → in_table table chains value ≡ []

-- what keys say of the versions at each value of the primary key: of which table, and which of its keys
abbrev pub Said : Type 0
Said = ℕ → ℕ → Value → List Version

-- Each key of each table has the entries of what it says.
pub record AreKeyed (schemas : List Schema) (indexes : ℕ → List Pair) (said : Said) : Type 0 where
  pub few : (table : ℕ) (schema : Schema) → slice_get schemas table ≡ Some schema → length schema.keys ≤ 4
  pub keys : (table which : ℕ) (schema : Schema) (key : Key) → slice_get schemas table ≡ Some schema → slice_get schema.keys which ≡ Some key
      → HasEntries schema key.column (indexes (key_index table which)) (said table which)

-- no pairs in the indexes of this table
pub record HasNoPairs (indexes : ℕ → List Pair) (table : ℕ) : Type 0 where
  pub rows : indexes (clustered_index table) ≡ []
  pub entries : (which : ℕ) → which < 4 → indexes (key_index table which) ≡ []

-- The records are these rows, and the entries of keys are of what they say of them. While a change of a place is under way
-- a key may say of it what was there before.
pub record AreCodedAs (schemas : List Schema) (indexes : ℕ → List Pair) (kept : ℕ → Option Kept) (chains : Chains) (said : Said) : Type 0 where
  pub clustered : AreClustered schemas indexes kept chains
  pub keyed : AreKeyed schemas indexes said

-- Each key says what is there.
abbrev pub what_is_there : Chains → Said
what_is_there chains table which value = in_table table chains value

-- The indexes of all tables, with what is kept for roll pointers, are these rows.
abbrev pub AreCoded : List Schema → (ℕ → List Pair) → (ℕ → Option Kept) → Chains → Type 0
AreCoded schemas indexes kept chains = AreCodedAs schemas indexes kept chains (what_is_there chains)

-- Of all places but this one the keys say the same.
abbrev pub SayTheSameBut : Place → Said → Said → Type 0
SayTheSameBut place said now =
    (table which : ℕ) (value : Value) → is_same_place place (record { table = table; key = value }) ≡ false
    → now table which value ≡ said table which value

-- Of all places but this one the keys say what is there.
abbrev pub LagAt : Place → Chains → Said → Type 0
LagAt place chains said = SayTheSameBut place (what_is_there chains) said

-- Each key says of the place all values that its versions but the newest have.
abbrev pub TellsOfOlder : Place → Chains → Said → Type 0
TellsOfOlder place chains said =
    (which column : ℕ) (value : Value)
    → list_any (λ (version : Version). has_value column value version.row) (older (versions_at place chains)) ≡ true
    → list_any (λ (version : Version). has_value column value version.row) (said place.table which place.key) ≡ true

-- One key says something else of one place now.
abbrev pub SaysNow : Said → Said → Place → ℕ → List Version → Type 0
SaysNow old new place which versions =
    (table key : ℕ) (value : Value)
    → new table key value ≡ (if key == which && is_same_place place (record { table = table; key = value }) then versions else old table key value)
