-- Tables without rows: none, and one more.
use Rattle.std.proofs.Common.{◌≡◌, sym, ap, ℕ, List, [], ◌∷◌, ◌++◌, length, Option, None, Some, refl, slice_get, inl, inr, arith}
use Rattle.std.proofs.lemmas.Bool.{true≢false}
use Rattle.std.proofs.lemmas.Option.{slice_get_past}
use Rattle.inno_types.specs.{declared.value.Value.Value, declared.value.Key.Key, declared.value.Schema.Schema}
use Rattle.entries.specs.Pairs.{Pair}
use Rattle.row_versions.specs.{declared.kept.Kept.Kept, declared.place.Place.Place, Chains.Chains, Chains.versions_at}
use Rattle.law_stored_rows.specs.{Entries.entry_of, Entries.HasEntries, Records.IsClustered}
use Rattle.law_stored_rows.specs.{Tables.in_table, Tables.HasItsColumns, Tables.HasNoPairs, Tables.AreCoded}
use Rattle.law_stored_rows.proofs.{Pairs.got_before, Pairs.got_last, Tables.at, Tables.few_of}

pub no_tables : (indexes : ℕ → List Pair) (kept : ℕ → Option Kept) (chains : Chains) → ((place : Place) → versions_at place chains ≡ [])
    → AreCoded [] indexes kept chains
no_tables indexes kept chains none = record {
  clustered = record { tables = λ table schema there. cc; nowhere_else = λ table value nowhere. none (at table value) };
  keyed = record { few = λ table schema there. cc; keys = λ table which schema key there also. cc };
}

-- ---- one table behind others

not_before : (schemas : List Schema) (schema : Schema) (table : ℕ) → slice_get (schemas ++ schema ∷ []) table ≡ None → slice_get schemas table ≡ None
not_before schemas schema table none = elim (slice_get schemas table) as (λ o. slice_get schemas table ≡ o → o ≡ None) [
  | None ↦ λ is. refl
  | Some s ↦ λ is. cc (none, got_before schemas (schema ∷ []) table s is)
] refl

module _ (schemas : List Schema) (schema : Schema) (indexes : ℕ → List Pair) (kept : ℕ → Option Kept) (chains : Chains)
    (is : AreCoded schemas indexes kept chains) (columns : HasItsColumns schema) (empty : HasNoPairs indexes (length schemas)) where
  none_there : (value : Value) → in_table (length schemas) chains value ≡ []
  none_there value = is.clustered.nowhere_else (length schemas) value (slice_get_past schemas (length schemas) (omega arith))

  no_rows_yet : IsClustered (length schemas) schema kept [] (in_table (length schemas) chains)
  no_rows_yet = record {
    primary = columns.primary;
    primary_is = columns.primary_is;
    rising = tt;
    keys = λ key there. absurd (true≢false (sym there));
    records = λ value has. rw (none_there value) tt;
    nowhere_else = λ value some. absurd (some (none_there value));
  }

  no_entries_yet : (which : ℕ) (key : Key) → slice_get schema.keys which ≡ Some key
      → HasEntries schema key.column [] (in_table (length schemas) chains)
  no_entries_yet which key is_key = let column = columns.keys which key is_key in record {
    primary = columns.primary;
    primary_is = columns.primary_is;
    indexed = column.0;
    indexed_is = column.1;
    rising = tt;
    each = λ entry there. absurd (true≢false (sym there));
    marks = λ at_key value has has_entry. inl (ap (entry_of key.column value) (sym (none_there at_key)));
  }

  pub a_table_more : AreCoded (schemas ++ schema ∷ []) indexes kept chains
  a_table_more = record {
    clustered = record {
      tables = λ table s there. elim (got_last schemas schema s table there)
          [ inl before ↦ is.clustered.tables table s before | inr last ↦ rw (last.0, ← last.1, empty.rows) no_rows_yet ];
      nowhere_else = λ table value none. is.clustered.nowhere_else table value (not_before schemas schema table none);
    };
    keyed = record {
      few = λ table s there. elim (got_last schemas schema s table there)
          [ inl before ↦ is.keyed.few table s before | inr last ↦ rw (← last.1) columns.few ];
      keys = λ table which s key there also. elim (got_last schemas schema s table there) [
        | inl before ↦ is.keyed.keys table which s key before also
        | inr last ↦
            let key_is : slice_get schema.keys which ≡ Some key = rw (← last.1) at also in
            rw (last.0, ← last.1, empty.entries which (few_of schema which key columns.few key_is)) (no_entries_yet which key key_is)
      ];
    };
  }
