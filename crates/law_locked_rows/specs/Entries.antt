-- Which entries of secondary keys a transaction has alone: those that its changes have given a row, or have marked.
-- Searches in secondary indexes read by it what a mark means; `AreEntriesOwned` holds of all sessions between steps.
use Rattle.std.specs.Prelude.{◌≡◌, ℕ, ◌++◌, ◌&&◌, ◌||◌, Bool, true, false, List, Some, slice_get}
use Rattle.std.specs.List.{list_any, list_all}
use Rattle.inno_types.specs.{declared.lock.Lock.Lock, declared.value.Schema.Schema, declared.value.Value.Value, declared.value.Column.Column}
use Rattle.inno_types.specs.{declared.value.Key.Key}
use Rattle.inno_model.specs.Past.{own}
use Rattle.key_codec.specs.Keys.{HasKey, HasEntry, key_code, entry_code}
use Rattle.row_versions.specs.{declared.place.Place.Place, declared.version.Version.Version, Chains.Chains, Chains.versions_at, Chains.newest}
use Rattle.law_stored_rows.specs.{Edits.key_index, Entries.has_value, Tables.Said}
use Rattle.law_past_agreement.specs.{Rows.is_at, Ids.id_of, Agreement.versions_of}
use Rattle.world.specs.State.{WorldState, Session, Work, HasWork}
use Rattle.law_locks.specs.Guards.{has_alone}

abbrev pub has : ℕ → Value → Version → Bool
has column value version = has_value column value version.row

-- Of the versions that a key tells in front, and of the newest row behind them, some have the value.
abbrev pub some_have : ℕ → Value → List Version → List Version → Bool
some_have column value fronts behind = list_any (has column value) fronts || has_value column value (newest behind)

abbrev pub all_have : ℕ → Value → List Version → List Version → Bool
all_have column value fronts behind = list_all (has column value) fronts && has_value column value (newest behind)

-- Whether the newest row told has the value: its entry stands without a mark.
abbrev pub newest_has : ℕ → Value → List Version → Bool
newest_has column value versions = has_value column value (newest versions)

-- One column of a table, by which a key orders its rows, and a value of its primary key.
pub record IsKeyed (place : Place) (at : ℕ) (state : WorldState) : Type 0 where
  pub schema : Schema
  pub there : slice_get state.schemas place.table ≡ Some schema
  pub primary : Column
  pub primary_is : slice_get schema.columns schema.primary ≡ Some primary
  pub key : Key
  pub key_is : slice_get schema.keys at ≡ Some key
  pub indexed : Column
  pub indexed_is : slice_get schema.columns key.column ≡ Some indexed
  pub has_key : HasKey primary.kind place.key

-- What the key tells of the place are versions of the transaction, and those that were there before: so which entry stands without a mark. Of marked
-- ones it doesn't say which are told, since an entry may stand marked without a version. It has each entry alone that some of its rows have, or the one
-- from before, and others not.
pub record OwnsEntries (chains : Chains) (said : Said) (state : WorldState) (granted : List Lock) (s : ℕ) (work : Work) (place : Place) (at : ℕ)
    (keyed : IsKeyed place at state) : Type 0 where
  pub fronts : List Version
  pub behind : List Version
  pub versions : versions_at place chains ≡ versions_of (id_of state.past s) (is_at state.schemas place) (own s state.past) ++ behind
  pub tells : (value : Value) → HasEntry keyed.indexed.kind value
      → newest_has keyed.key.column value (fronts ++ behind) ≡ newest_has keyed.key.column value (said place.table at place.key)
  pub alone : (value : Value) → some_have keyed.key.column value fronts behind ≡ true
      → all_have keyed.key.column value fronts behind ≡ false
      → has_alone work.txn (key_index place.table at) (entry_code keyed.indexed.kind value (key_code keyed.primary.kind place.key)) granted ≡ true

-- so of each place that a session has changed
abbrev pub AreEntriesOwned : Chains → Said → WorldState → List Lock → Type 0
AreEntriesOwned chains said state granted =
    (s : ℕ) (session : Session) (work : Work) (place : Place) (at : ℕ) (keyed : IsKeyed place at state) → HasWork s session work state
    → list_any (is_at state.schemas place) (own s state.past) ≡ true → OwnsEntries chains said state granted s work place at keyed
