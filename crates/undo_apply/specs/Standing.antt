-- A change that stands as the newest version of its place, and what keys say of the place while it is taken back.
use Rattle.std.specs.Prelude.{◌≡◌, ◌≢◌, ◌⊎◌, ℕ, ◌<◌, ◌≤◌, ◌==◌, Bool, false, if◌then◌else◌, List, ◌∷◌, length, slice_get, slice_index_or, Option, None, Some}
use Rattle.std.specs.List.{list_any}
use Rattle.inno_types.specs.{declared.value.Column.Column, declared.value.Schema.Schema}
use Rattle.store_api.specs.{declared.answers.Undo.Undo}
use Rattle.store_api.specs.declared.answers.Version.{Version as Coded}
use Rattle.key_codec.specs.Keys.{HasKey, key_code}
use Rattle.law_stored_rows.specs.{Storable.IsStorable, Edits.clustered_index, Entries.value_in, Entries.has_value, Records.shown, Records.IsCodeOf}
use Rattle.law_stored_rows.specs.{Records.LeadTo, Tables.Said, Tables.AreCodedAs}
use Rattle.entries.specs.Pairs.{Pair, value_of}
use Rattle.row_versions.specs.{declared.kept.Kept.Kept, declared.place.Place.Place, declared.version.Version.Version}
use Rattle.row_versions.specs.Chains.{Chains, versions_at, is_same_place, older}
use Rattle.secondary.specs.Entries.{place_if}
use Rattle.world.specs.Indexes.{IsUndo}
use Rattle.undo_apply.specs.Told.{Rows}

-- The undo record is one of this table, which can be stored, and tells of this place.
pub record TellsOf (undo : Undo) (schema : Schema) (place : Place) (schemas : List Schema) : Type 0 where
  pub there : slice_get schemas undo.table ≡ Some schema
  pub storable : IsStorable schema
  pub undo_is : IsUndo schemas undo
  pub table_is : place.table ≡ undo.table
  pub primary : Column
  pub primary_is : slice_get schema.columns schema.primary ≡ Some primary
  pub has_key : HasKey primary.kind place.key
  pub key_is : undo.key ≡ key_code primary.kind place.key

-- what was at the record's key before the change: no record, or the version that is kept
abbrev pub was_before : Undo → Option (List ℕ)
was_before undo = if undo.kind == 1 then None else Some undo.value

-- whether there was a row before the change: the version that is kept has no mark
abbrev pub had_row : Undo → Bool
had_row undo = if undo.kind == 1 then false else slice_index_or undo.value 0 1 == 0

-- the versions that were there before the newest
abbrev pub versions_before : Chains → Place → List Version
versions_before chains place = older (versions_at place chains)

-- the pointer leads to what was before the change
abbrev pub LeadsBack : Undo → (ℕ → Option Kept) → ℕ → Type 0
LeadsBack undo kept pointer =
    ((undo.kind ≡ 1) × (pointer ≡ 0)) ⊎ ((undo.kind ≡ 2) × (pointer ≢ 0) × (former : Kept) × (kept pointer ≡ Some former) × (former.bytes ≡ undo.value))

-- The change is the newest version of its place: these bytes are its record, and its pointer leads to what was before.
pub record IsNewest (undo : Undo) (schema : Schema) (pairs : ℕ → List Pair) (kept : ℕ → Option Kept) (bytes : List ℕ) (coded : Coded) : Type 0 where
  pub there : value_of undo.key (pairs (clustered_index undo.table)) ≡ Some bytes
  pub code_is : IsCodeOf schema undo.key bytes coded
  pub before : LeadsBack undo kept coded.pointer

-- at one place what the key of this number says, and elsewhere what is said beside
abbrev pub said_but : Said → Place → (ℕ → List Version) → Said
said_but beside place said table which value = if is_same_place place (record { table = table; key = value }) then said which else beside table which value

-- While a change of one place is under way: each key says of that place what `said` has for it, and of all others what `beside` has.
-- Where nothing else is under way, `beside` is what is there.
abbrev pub AreCodedBut : List Schema → (ℕ → List Pair) → (ℕ → Option Kept) → Chains → Said → Place → (ℕ → List Version) → Type 0
AreCodedBut schemas indexes kept chains beside place said = AreCodedAs schemas indexes kept chains (said_but beside place said)

-- A key says the versions before, or that the row is gone.
abbrev pub IsCleared : List Version → List Version → Type 0
IsCleared before said = (said ≡ before) ⊎ ((gone : Version) × (gone.row ≡ None) × (said ≡ gone ∷ before))

-- Or else it says the newest version, too: which of the three depends on how far the change had come.
abbrev pub IsLagging : Version → List Version → List Version → Type 0
IsLagging newest before said = IsCleared before said ⊎ (said ≡ newest ∷ before)

-- The first keys say the versions before, this one says something that holds, and the others lag.
pub record SayBefore (done : ℕ) (Holds : List Version → Type 0) (newest : Version) (before : List Version) (said : ℕ → List Version) : Type 0 where
  pub first : (which : ℕ) → which < done → said which ≡ before
  pub here : Holds (said done)
  pub others : (which : ℕ) → done < which → IsLagging newest before (said which)

-- The change of the place is being taken back, and so many keys are done.
pub record IsUnderWay (chains : Chains) (beside : Said) (place : Place) (undo : Undo) (schema : Schema) (rows : Rows) (bytes : List ℕ) (coded : Coded)
    (done : ℕ) (Holds : List Version → Type 0) : Type 0 where
  pub newest : IsNewest undo schema rows.pairs rows.kept bytes coded
  pub said : ℕ → List Version
  pub coded_but : AreCodedBut rows.schemas rows.pairs rows.kept chains beside place said
  pub says : SayBefore done Holds (shown coded) (versions_before chains place) said

-- The change has been taken back: the keys say of its place what is there, and of others what they said; at its key is what was before.
pub record IsTakenBack (chains : Chains) (beside : Said) (place : Place) (undo : Undo) (rows : Rows) : Type 0 where
  pub all : AreCodedBut rows.schemas rows.pairs rows.kept chains beside place (λ which. versions_at place chains)
  pub there : value_of undo.key (rows.pairs (clustered_index undo.table)) ≡ was_before undo

-- ---- older versions with the newest row's value

-- the column of the key of this number
abbrev pub column_of : Schema → ℕ → ℕ
column_of schema which = place_if (slice_get schema.keys which)

-- whether one of these versions has the value that this row has in the key's column
abbrev pub some_has : Schema → ℕ → Coded → List Version → Bool
some_has schema which coded versions =
    list_any (λ version. has_value (column_of schema which) (value_in (column_of schema which) coded.row) version.row) versions

-- The walk has come to this pointer, and none of the versions that it passed has the value. Those that are left are among
-- the versions before the change.
pub record HasWalked (schema : Schema) (key : List ℕ) (kept : ℕ → Option Kept) (which pointer : ℕ) (coded : Coded) (before : List Version) : Type 0 where
  pub left : List Version
  pub leads : LeadTo schema key kept pointer left
  pub fewer : length left ≤ length before
  pub passed : some_has schema which coded before ≡ some_has schema which coded left
