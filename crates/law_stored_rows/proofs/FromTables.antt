-- What is read of all tables: from what is known of one.
use Rattle.std.proofs.Common.{◌≡◌, ℕ, List, [], ◌∷◌, Option, None, Some, slice_get, inl, inr}
use Rattle.inno_types.specs.{declared.value.Value.Value, declared.value.Column.Column, declared.value.Schema.Schema}
use Rattle.inno_db.specs.Database.{key_of}
use Rattle.store_api.specs.declared.answers.Version.{Version as Coded}
use Rattle.key_codec.specs.Keys.{HasKey, key_code}
use Rattle.entries.specs.Pairs.{Pair, value_of}
use Rattle.row_versions.specs.{declared.kept.Kept.Kept, Chains.Chains}
use Rattle.row_versions.specs.{Chains.older}
use Rattle.law_stored_rows.specs.{Edits.clustered_index, Records.shown, Records.IsCodeOf, Records.LeadTo, Records.kept_of}
use Rattle.law_stored_rows.specs.Tables.{in_table, AreClustered}
use Rattle.law_stored_rows.proofs.{Values.key_there, RowRecords.record_read, RowRecords.no_record, RowRecords.nothing_or_there}

pub decoded : (schemas : List Schema) (indexes : ℕ → List Pair) (kept : ℕ → Option Kept) (chains : Chains) (table : ℕ) (schema : Schema)
    (key bytes : List ℕ) (coded : Coded)
    → AreClustered schemas indexes kept chains → slice_get schemas table ≡ Some schema → value_of key (indexes (clustered_index table)) ≡ Some bytes
    → IsCodeOf schema key bytes coded
    → (in_table table chains (key_of schema coded.row) ≡ shown coded ∷ older (in_table table chains (key_of schema coded.row)))
    × LeadTo schema key (kept_of kept table key) coded.pointer (older (in_table table chains (key_of schema coded.row)))
decoded schemas indexes kept chains table schema key bytes coded is there some code =
    let rows = is.tables table schema there in
    let here = key_of schema coded.row in
    let both = key_there schema key bytes coded rows.primary rows.primary_is code in
    record_read schema key bytes (kept_of kept table key) (in_table table chains here) coded (rw (← both.1, some) at (rows.records here both.0)) code

pub absent : (schemas : List Schema) (indexes : ℕ → List Pair) (kept : ℕ → Option Kept) (chains : Chains) (table : ℕ) (schema : Schema)
    (primary : Column) (value : Value)
    → AreClustered schemas indexes kept chains → slice_get schemas table ≡ Some schema → slice_get schema.columns schema.primary ≡ Some primary
    → (HasKey primary.kind value → value_of (key_code primary.kind value) (indexes (clustered_index table)) ≡ None) → in_table table chains value ≡ []
absent schemas indexes kept chains table schema primary value is there primary_is none =
    let rows = is.tables table schema there in
    let one : primary ≡ rows.primary = cc (primary_is, rows.primary_is) in
    let none_too = rw one at none in
    elim (nothing_or_there rows value) [
      | inl empty ↦ empty
      | inr found ↦ no_record schema (key_code rows.primary.kind value) (kept_of kept table (key_code rows.primary.kind value))
          (in_table table chains value)
          (rw (none_too found.0) at (rows.records value found.0))
    ]
