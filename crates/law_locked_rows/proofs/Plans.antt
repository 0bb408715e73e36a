-- A plan that a session keeps is kept by the steps of others, and by its own changes.
-- Until its transaction ends the statement's work rests on that. No lock is taken here.
use Rattle.std.proofs.Common.{◌≡◌, ◌∙◌, ◌⊎◌, inl, inr, sym, ap, subst, ℕ, Bool, true, List, Some, slice_get}
use Rattle.std.proofs.lemmas.Bool.{true≢false}
use Rattle.inno_types.specs.{declared.lock.Lock.Lock, declared.value.Schema.Schema, declared.value.Value.Value, declared.stmt.Range.Range}
use Rattle.inno_db.specs.Indexes.{index_of}
use Rattle.store_api.specs.declared.answers.Undo.{Undo}
use Rattle.key_codec.specs.Keys.{key_code}
use Rattle.sql_plan.specs.Visits.{primary_key, kind_at, kind_if}
use Rattle.law_stored_rows.specs.{Edits.clustered_index}
use Rattle.world.specs.State.{WorldState}
use Rattle.row_changes.specs.Edits.{IsKeyAt}
use Rattle.law_locks.specs.Guards.{Guarded, has_record}
use Rattle.row_search.proofs.Keys.{IsHome, key_is_value}
use Rattle.law_locked_rows.specs.Owning.{HasAlone}
use Rattle.law_locked_rows.proofs.Owning.{alone_has, one_key}
use Rattle.law_locked_rows.specs.Now.{row_now}
use Rattle.law_locked_rows.specs.Locking.{records_in, lies_to, KeepsTo}
use Rattle.law_locked_rows.specs.Keeping.{Fails, StayOrFail}

-- A step of another: each row is as it was, or lies outside before and now.
pub kept_by_others : (schema : Schema) (table which : ℕ) (range : Range) (s txn made : ℕ) (log : List Undo) (passes : List ℕ → Bool) (old new : WorldState)
    (granted now : List Lock)
    → ((key : List ℕ) → Guarded txn (index_of table which) (records_in old (index_of table which)) granted key made log
    → Guarded txn (index_of table which) (records_in new (index_of table which)) now key made log)
    → ((key : List ℕ) → has_record txn (clustered_index table) key granted ≡ true → has_record txn (clustered_index table) key now ≡ true)
    → StayOrFail (lies_to schema which range passes) (row_now s table old.past) (row_now s table new.past)
    → KeepsTo schema table which range s txn made log passes old granted → KeepsTo schema table which range s txn made log passes new now
kept_by_others schema table which range s txn made log passes old new granted now guards records stay keeps = record {
  guarded = λ key may within. guards key (keeps.guarded key may within);
  rows = λ value row is lies. elim (stay value) [
    | inl same ↦ records (primary_key schema row) (keeps.rows value row (sym same ∙ is) lies)
    | inr fail ↦ absurd (true≢false (sym lies ∙ subst (Fails (lies_to schema which range passes)) is fail.1))
  ];
}

-- A step of its own, with one change more or less: of each row that has changed it has the record.
pub kept_by_own : (schema : Schema) (table which : ℕ) (range : Range) (s txn made : ℕ) (log later : List Undo) (passes : List ℕ → Bool) (old new : WorldState)
    (granted now : List Lock)
    → ((key : List ℕ) → Guarded txn (index_of table which) (records_in old (index_of table which)) granted key made log
    → Guarded txn (index_of table which) (records_in new (index_of table which)) now key made later)
    → ((value : Value) (row : List Value) → row_now s table new.past value ≡ Some row
    → ((row_now s table old.past value ≡ Some row) × (has_record txn (clustered_index table) (primary_key schema row) granted ≡ true
    → has_record txn (clustered_index table) (primary_key schema row) now ≡ true))
    ⊎ (has_record txn (clustered_index table) (primary_key schema row) now ≡ true))
    → KeepsTo schema table which range s txn made log passes old granted → KeepsTo schema table which range s txn made later passes new now
kept_by_own schema table which range s txn made log later passes old new granted now guards each keeps = record {
  guarded = λ key may within. guards key (keeps.guarded key may within);
  rows = λ value row is lies. elim (each value row is) [
    | inl same ↦ same.1 (keeps.rows value row same.0 lies)
    | inr has ↦ has
  ];
}

-- the record of a row that it has changed it has locked, since it has it alone
pub own_locked : (schema : Schema) (table s : ℕ) (state : WorldState) (granted : List Lock) (value : Value) (row : List Value) (key : List ℕ)
    → IsHome schema value row → slice_get state.schemas table ≡ Some schema → IsKeyAt schema value key
    → (mine : HasAlone s (record { table = table; key = value }) state granted)
    → has_record mine.work.txn (clustered_index table) (primary_key schema row) granted ≡ true
own_locked schema table s state granted value row key h there at mine =
    let kind : kind_at schema.columns schema.primary ≡ at.column.kind = ap kind_if at.primary in
    let spelled : primary_key schema row ≡ key = key_is_value schema value row h ∙ ap (λ k. key_code k value) kind ∙ sym at.spelled in
    let same : mine.key ≡ key = one_key (record { table = table; key = value }) state.schemas mine.key key mine.key_is
    (record { schema = schema; there = there; at = at }) in
    subst (λ (k : List ℕ). has_record mine.work.txn (clustered_index table) k granted ≡ true) (same ∙ sym spelled)
    (alone_has mine.work.txn (clustered_index table) mine.key granted mine.alone)
