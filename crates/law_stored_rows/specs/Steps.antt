-- One step of a change: a record or an entry is put, replaced or removed.
use Rattle.std.specs.Prelude.{◌≡◌, ℕ, List, Option, Some, slice_get}
use Rattle.inno_types.specs.{declared.value.Column.Column, declared.value.Key.Key, declared.value.Schema.Schema}
use Rattle.store_api.specs.declared.answers.Version.{Version as Coded}
use Rattle.key_codec.specs.Keys.{entry_code}
use Rattle.entries.specs.Pairs.{Pair}
use Rattle.law_stored_rows.specs.{Edits.clustered_index, Edits.key_index, Edits.Puts, Entries.value_in, Records.IsCodeOf}

-- At the key of this version, which these bytes are the record of, the table has this now.
pub record PutsRecord (schemas : List Schema) (old new : ℕ → List Pair) (table : ℕ) (schema : Schema) (key bytes : List ℕ) (coded : Coded)
    (now : Option (List ℕ)) : Type 0 where
  pub there : slice_get schemas table ≡ Some schema
  pub code_is : IsCodeOf schema key bytes coded
  pub puts : Puts old new (clustered_index table) key now

-- The table's key of this number is on this column, and the entry there of the version's row has this now.
pub record PutsEntry (schemas : List Schema) (old new : ℕ → List Pair) (table : ℕ) (schema : Schema) (which column : ℕ) (coded : Coded)
    (now : Option (List ℕ)) : Type 0 where
  pub there : slice_get schemas table ≡ Some schema
  pub key : Key
  pub key_is : slice_get schema.keys which ≡ Some key
  pub column_is : key.column ≡ column
  pub indexed : Column
  pub indexed_is : slice_get schema.columns column ≡ Some indexed
  pub primary : List ℕ
  pub bytes : List ℕ
  pub code_is : IsCodeOf schema primary bytes coded
  pub puts : Puts old new (key_index table which) (entry_code indexed.kind (value_in column coded.row) primary) now
