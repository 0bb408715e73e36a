-- Each entry that is there is of some place, whose key stands at its end.
-- `SearchSteps` asks it of the entry that a search has met.
use Rattle.std.proofs.Common.{arith, ◌≡◌, ◌∙◌, inl, inr, sym, ap, subst, ℕ, ◌+◌, ◌-◌, ◌≤◌, true, List, ◌++◌, length, Some, slice_get, is_some, length-append}
use Rattle.std.proofs.lemmas.List.{drop_at}
use Rattle.inno_types.specs.{declared.lock.Lock.Lock, declared.value.Schema.Schema, declared.value.Value.Value}
use Rattle.inno_db.specs.Indexes.{index_of}
use Rattle.key_codec.specs.Keys.{key_code, key_width, entry_front}
use Rattle.key_codec.proofs.Lengths.{length-key_code}
use Rattle.entries.specs.Pairs.{value_of}
use Rattle.sql_plan.specs.Visits.{kind_at, kind_if}
use Rattle.law_stored_rows.specs.{Edits.clustered_index}
use Rattle.world.specs.{Told.pairs_of}
use Rattle.row_changes.specs.Edits.{IsKeyAt}
use Rattle.row_search.specs.Ranges.{primary_part}
use Rattle.row_search.proofs.Keys.{whole_key}
use Rattle.desks.specs.Desks.{Store}
use Rattle.law_locked_rows.specs.Many.{IsHeldByAll}
use Rattle.law_locked_rows.proofs.Committing.{data_of}

end_of : (schema : Schema) (front key : List ℕ) → length key ≡ key_width (kind_at schema.columns schema.primary) → primary_part schema (front ++ key) ≡ key
end_of schema front key width =
    drop_at front key (length (front ++ key) - key_width (kind_at schema.columns schema.primary))
    (let both : length (front ++ key) ≡ length front + length key = length-append front key in omega arith)

module _ {store : Store} {granted : List Lock} (held : IsHeldByAll store granted) {schema : Schema} (table which : ℕ)
    (there : slice_get store.world.schemas table ≡ Some schema) (le : which ≤ length schema.keys) where
  pub entry_place : (entry : List ℕ) → is_some (value_of entry (pairs_of store.world (index_of table which))) ≡ true
      → (value : Value) × IsKeyAt schema value (primary_part schema entry) × (which ≡ 0 → primary_part schema entry ≡ entry)
  entry_place entry is = elim (data_of schema which le) [
    | inl zeroth ↦
        let clustered = held.rows.coded.clustered.tables table schema there in
        let index : index_of table which ≡ clustered_index table = ap (index_of table) zeroth ∙ omega arith in
        let some = clustered.keys entry (subst (λ i. is_some (value_of entry (pairs_of store.world i)) ≡ true) index is) in
        let whole = whole_key schema clustered.primary entry clustered.primary_is some in
        (some.0, record { column = clustered.primary; primary = clustered.primary_is; has_key = some.1; spelled = whole ∙ some.2 }, λ again. whole)
    | inr keyed ↦
        let entries = held.rows.coded.keyed.keys table keyed.0 schema keyed.2 there keyed.3 in
        let some = entries.each entry (subst (λ i. is_some (value_of entry (pairs_of store.world i)) ≡ true) (ap (index_of table) keyed.1) is) in
        let kind : kind_at schema.columns schema.primary ≡ entries.primary.kind = ap kind_if entries.primary_is in (
          some.0,
          record {
            column = entries.primary;
            primary = entries.primary_is;
            has_key = some.2;
            spelled = ap (primary_part schema) some.4
                ∙ end_of schema (entry_front entries.indexed.kind some.1) (key_code entries.primary.kind some.0)
                (length-key_code entries.primary.kind some.0 some.2.0 ∙ ap key_width (sym kind));
          },
          λ zeroth. absurd (none_zero keyed.0 (sym zeroth ∙ keyed.1)),
        )
  ]
    where
      none_zero : (n : ℕ) → 0 ≡ 1 + n → ⊥
      none_zero n e = absurd (omega (arith, e))
