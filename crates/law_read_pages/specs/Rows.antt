-- What whoever opens a database reads of its records: of each row the first version along its roll pointers whose writer has
-- no open transaction.
use Rattle.std.specs.Prelude.{◌≡◌, ◌==◌, ℕ, Bool, true, false, if◌then◌else◌, List, Option, Some, None, slice_get}
use Rattle.std.specs.List.{list_any}
use Rattle.std.specs.FinMap.{get}
use Rattle.inno_types.specs.declared.value.Value.{Value}
use Rattle.inno_types.specs.declared.value.Column.{Column}
use Rattle.inno_types.specs.declared.value.Schema.{Schema}
use Rattle.inno_db.specs.Database.{RowMap}
use Rattle.key_codec.specs.Keys.{HasKey, key_code}
use Rattle.entries.specs.Pairs.{Pair, value_of}
use Rattle.row_versions.specs.declared.kept.Kept.{Kept}
use Rattle.txn_table.specs.Txns.{Entry, ids_of}
use Rattle.row_versions.specs.declared.version.Version.{Version}
use Rattle.row_versions.specs.Chains.{first_seen}
use Rattle.law_stored_rows.specs.Edits.{clustered_index}
use Rattle.law_stored_rows.specs.Records.{IsRecordWith}

-- one of these open transactions has the id
abbrev pub has_id : List Entry → ℕ → Bool
has_id open_txns id = list_any (λ a. a == id) (ids_of open_txns)

abbrev pub is_settled_id : (ℕ → Bool) → ℕ → Bool
is_settled_id open_id id = if open_id id then false else true

-- The record, if there is one, leads to versions, of which the first whose writer isn't open left this row.
pub record ReadsAs (schema : Schema) (key : List ℕ) (kept : ℕ → Option Kept) (open_id : ℕ → Bool) (bytes : Option (List ℕ))
    (row : Option (List Value)) : Type 0 where
  pub versions : List Version
  pub leads : IsRecordWith schema key kept bytes versions
  pub first : first_seen (is_settled_id open_id) versions ≡ row

-- The records of all tables read as these rows, and there are no others.
pub record ReadAs (schemas : List Schema) (indexes : ℕ → List Pair) (kept : ℕ → Option Kept) (open_id : ℕ → Bool) (rows : RowMap) : Type 0 where
  pub records : (table : ℕ) (schema : Schema) (primary : Column) (value : Value) → slice_get schemas table ≡ Some schema
      → slice_get schema.columns schema.primary ≡ Some primary → HasKey primary.kind value
      → ReadsAs schema (key_code primary.kind value) kept open_id (value_of (key_code primary.kind value) (indexes (clustered_index table)))
      (get rows (table, value))
  pub no_others : (table : ℕ) (schema : Schema) (primary : Column) (value : Value) → slice_get schemas table ≡ Some schema
      → slice_get schema.columns schema.primary ≡ Some primary → (HasKey primary.kind value → ⊥) → get rows (table, value) ≡ None
  pub no_tables : (table : ℕ) (value : Value) → slice_get schemas table ≡ None → get rows (table, value) ≡ None
