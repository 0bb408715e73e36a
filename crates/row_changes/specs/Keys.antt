-- What is known while the keys of a table take over a change of a row, and what each step does.
use Rattle.std.specs.Prelude.{◌≡◌, ◌⊎◌, ℕ, ◌<◌, ◌≤◌, Bool, true, false, List, length, slice_get, Option, None, Some, ◌+◌, ◌-◌, ◌*◌, ◌^◌, ◌∷◌, IfSome}
use Rattle.inno_types.specs.{declared.value.Value.Value, declared.value.Column.Column, declared.value.Key.Key, declared.value.Schema.Schema}
use Rattle.key_codec.specs.Keys.{HasEntry, entry_code}
use Rattle.law_stored_rows.specs.{Entries.value_in, Entries.is_same_value, Edits.clustered_index, Edits.key_index, Tables.Said, Tables.SayTheSameBut}
use Rattle.row_changes.specs.{declared.key_entries.KeyEntries.KeyEntries, declared.entry_put.EntryPut.EntryPut, declared.entry_put.PutPhase.TheVariants.Look}
use Rattle.row_changes.specs.{declared.keys_change.KeysChange.KeysChange, Reached.Reached, Pairs.RowsStay, Pairs.PutsPair, Entries.IsPutting}
use Rattle.row_changes.specs.{Entries.put_steps, Pairs.HindersBehind, Edits.IsRowFor, Edits.IsKeyAt, Records.IsTable, Told.AreRowsAs, Told.HasRowsAt}
use Rattle.row_changes.specs.Reached.{Went, Done, Hindered}
use Rattle.store_api.specs.{declared.moves.Move.Move, declared.moves.Move.TheVariants.End}
use Rattle.entries.specs.Index.{AreKept}
use Rattle.row_versions.specs.{Versions.Stays, declared.place.Place.Place, declared.version.Version.Version, Chains.Chains, Chains.versions_at, Chains.newest}
use Rattle.world.specs.{State.WorldState, Stores.StoreGoes, Told.IsTold}

-- whether the key on this column has the same to say before and after
abbrev pub value_stays : ℕ → Option (List Value) → Option (List Value) → Bool
value_stays column None None = true
value_stays column None (Some after) = false
value_stays column (Some before) None = false
value_stays column (Some before) (Some after) = is_same_value (value_in column before) (value_in column after)

-- the table has a key of this number, on one of its columns
pub record HasColumnOf (schema : Schema) (which : ℕ) : Type 0 where
  pub key : Key
  pub key_is : slice_get schema.keys which ≡ Some key
  pub indexed : Column
  pub indexed_is : slice_get schema.columns key.column ≡ Some indexed

-- these bytes are the entry of the row in the table's key of this number
pub record IsEntryIn (schema : Schema) (which : ℕ) (row : List Value) (primary entry : List ℕ) : Type 0 where
  pub key : Key
  pub key_is : slice_get schema.keys which ≡ Some key
  pub indexed : Column
  pub indexed_is : slice_get schema.columns key.column ≡ Some indexed
  pub spelled : entry ≡ entry_code indexed.kind (value_in key.column row) primary

-- its entry, if there is a row
abbrev pub IsEntryFor : Schema → ℕ → Option (List Value) → List ℕ → Option (List ℕ) → Type 0
IsEntryFor schema which None primary None = Unit {0}
IsEntryFor schema which None primary (Some entry) = ⊥
IsEntryFor schema which (Some row) primary None = ⊥
IsEntryFor schema which (Some row) primary (Some entry) = IsEntryIn schema which row primary entry

-- the value stays in each key from the one up to the other
abbrev pub StayBetween : Schema → ℕ → ℕ → Option (List Value) → Option (List Value) → Type 0
StayBetween schema from to before after =
    (which : ℕ) (key : Key) → from ≤ which → which < to → slice_get schema.keys which ≡ Some key → value_stays key.column before after ≡ true

-- the value doesn't stay in this key, if it is one, and stays in those from the first on
pub record IsFirstToChange (schema : Schema) (from : ℕ) (before after : Option (List Value)) (which : ℕ) : Type 0 where
  pub from_there : from ≤ which
  pub within : which ≤ length schema.keys
  pub stay : StayBetween schema from which before after
  pub changes : (key : Key) → slice_get schema.keys which ≡ Some key → value_stays key.column before after ≡ false

-- the entries of the two rows in that key
pub record AreEntries (schema : Schema) (from : ℕ) (before after : Option (List Value)) (primary : List ℕ) (entries : KeyEntries) : Type 0 where
  pub first : IsFirstToChange schema from before after entries.which
  pub within : entries.which < length schema.keys
  pub old_is : IsEntryFor schema entries.which before primary entries.old
  pub new_is : IsEntryFor schema entries.which after primary entries.new

-- ---- what is known while the keys of a table take over a change of a row, and what each step does

-- ---- what keys say meanwhile

-- a version without a row
abbrev pub gone : Version
gone = record { writer = 0; row = None }

-- what a key says whose old entry is marked: the row that was there has gone
abbrev pub without_row : Option (List Value) → List Version → List Version
without_row None older = older
without_row (Some row) older = gone ∷ older

-- what the next key says: as long as its new entry isn't being put, what was there before
abbrev pub said_next : Option EntryPut → Option (List Value) → List Version → List Version
said_next None before older = older
said_next (Some put) before older = without_row before older

-- Of all places but this one the keys say what is said beside it. Of this one the first keys say what is there, the next one
-- says this, and the later ones what was there before.
pub record SaySoFar (chains : Chains) (beside : Said) (place : Place) (done : ℕ) (next older : List Version) (said : Said) : Type 0 where
  pub lag : SayTheSameBut place beside said
  pub first : (which : ℕ) → which < done → said place.table which place.key ≡ versions_at place chains
  pub here : said place.table done place.key ≡ next
  pub later : (which : ℕ) → done < which → said place.table which place.key ≡ older

-- where told, the rows are these, and the keys say so much of the place
abbrev pub HasRowsSoFar : Chains → Said → Place → ℕ → List Version → List Version → WorldState → Type 0
HasRowsSoFar chains beside place done next older state =
    IsTold state → (said : Said) × AreRowsAs chains said state × SaySoFar chains beside place done next older said

-- a version came to the place, over these older ones, and its row is this
pub record IsPushed (chains : Chains) (place : Place) (older : List Version) (after : Option (List Value)) : Type 0 where
  pub version : Version
  pub versions : versions_at place chains ≡ version ∷ older
  pub is : version.row ≡ after
  pub small : version.writer < 2 ^ 64

-- the row's new entry in a key is being put
pub record IsEntering (schema : Schema) (table which : ℕ) (row : Option (List Value)) (primary : List ℕ) (state : WorldState) (put : EntryPut) : Type 0 where
  pub index_is : put.index ≡ key_index table which
  pub entry_is : IsEntryFor schema which row primary (Some put.entry)
  pub within : which < length schema.keys
  pub putting : IsPutting state put

pub record IsChangingKeys (chains : Chains) (beside : Said) (state : WorldState) (change : KeysChange) : Type 0 where
  pub schema : Schema
  pub table : IsTable change.table schema state
  pub value : Value
  pub at : IsKeyAt schema value change.key
  pub before : IfSome change.before (λ row. IsRowFor schema row change.key)
  pub after : IfSome change.after (λ row. IsRowFor schema row change.key)
  pub within : change.which ≤ length schema.keys
  pub put : IfSome change.put (IsEntering schema change.table change.which change.after change.key state)
  pub older : List Version
  pub pushed : IsPushed chains (record { table = change.table; key = value }) older change.after
  pub was : IsTold state → newest older ≡ change.before
  pub rows : HasRowsSoFar chains beside (record { table = change.table; key = value }) change.which (said_next change.put change.before older) older state

-- the new row's entry comes next, or the next key where there is none
abbrev pub keys_next : KeysChange → ℕ → ℕ → Option (List ℕ) → KeysChange
keys_next change index which None = record change { which = which + 1; put = None }
keys_next change index which (Some entry) = record change { which = which; put = Some (record { index = index; entry = entry; phase = Look }) }

-- how many steps are left at most, where so many keys are
abbrev pub keys_steps : ℕ → Option EntryPut → ℕ
keys_steps keys None = 4 * keys
keys_steps keys (Some put) = 4 * (keys - 1) + put_steps put.phase

-- Entries alone have changed: no record, and no actor's place.
pub record StaysBesideKeys (old new : WorldState) : Type 0 where
  pub told : IsTold new → IsTold old
  pub records : (table : ℕ) → AreKept (old.indexes (clustered_index table)).pairs (new.indexes (clustered_index table)).pairs
  pub places : (index : ℕ) → (new.indexes index).place ≡ (old.indexes index).place
  pub versions : Stays old.versions new.versions
  pub rest : new ≡ record old { indexes = new.indexes; versions = new.versions; paged = new.paged }
  pub later : StoreGoes old.paged new.paged

-- these bytes are the entry of some value at the clustered record's key, in the table's key of this number
pub record IsEntryAt (schema : Schema) (which : ℕ) (primary entry : List ℕ) : Type 0 where
  pub key : Key
  pub key_is : slice_get schema.keys which ≡ Some key
  pub indexed : Column
  pub indexed_is : slice_get schema.columns key.column ≡ Some indexed
  pub value : Value
  pub has : HasEntry indexed.kind value
  pub spelled : entry ≡ entry_code indexed.kind value primary

-- One entry of the row was changed, or none, and no entry of another row.
abbrev pub ChangesItsEntry : Schema → ℕ → List ℕ → WorldState → WorldState → Type 0
ChangesItsEntry schema table primary old new =
    RowsStay old new ⊎ ((which : ℕ) × (which < length schema.keys) × (entry : List ℕ) × (value : Option (List ℕ)) × PutsPair (key_index table which)
    entry value old new × (IsTold old → IsEntryAt schema which primary entry))

-- the same change, some steps nearer
pub record GoesOnWithKeys (chains : Chains) (beside : Said) (old new : WorldState) (change next : KeysChange) : Type 0 where
  pub stays : StaysBesideKeys old new
  pub entry : (schema : Schema) → slice_get old.schemas change.table ≡ Some schema → ChangesItsEntry schema change.table change.key old new
  pub table_is : next.table ≡ change.table
  pub key_is : next.key ≡ change.key
  pub before_is : next.before ≡ change.before
  pub after_is : next.after ≡ change.after
  pub holds : IsChangingKeys chains beside new next
  pub nears : (schema : Schema) → slice_get old.schemas change.table ≡ Some schema
      → keys_steps (length schema.keys - next.which) next.put < keys_steps (length schema.keys - change.which) change.put

-- Why the change has not gone on: memory was lacking, or the call of an entry was hindered, in the index of a key. That the old entry isn't
-- there comes only where the world doesn't tell what is kept.
pub record HindersKeys (actor : ℕ) (old new : WorldState) (change : KeysChange) (why : Move) : Type 0 where
  pub which : ℕ
  pub from : change.which ≤ which
  pub cause : HindersBehind actor (old.indexes (key_index change.table which)) (new.indexes (key_index change.table which)) why
      ⊎ ((why ≡ End) × (IsTold old → ⊥))

abbrev pub ChangesKeys : ℕ → Chains → Said → WorldState → WorldState → KeysChange → Reached KeysChange → Type 0
ChangesKeys actor chains beside old new change (Went next) = GoesOnWithKeys chains beside old new change next
ChangesKeys actor chains beside old new change Done = RowsStay old new × HasRowsAt chains beside change.table change.key new
ChangesKeys actor chains beside old new change (Hindered same why) =
    (same ≡ change) × RowsStay old new × IsChangingKeys chains beside new change × HindersKeys actor old new change why
