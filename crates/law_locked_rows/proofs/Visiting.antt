-- A search that locks goes on behind an entry: past it, or with its row found.
-- `AtMarked` and the steps of the record end with it; what was passed is told in `IsLocking`.
use Rattle.std.proofs.Common.{Vec, Global, ◌≡◌, ◌≢◌, ◌∙◌, ◌⊎◌, inl, inr, refl, sym, ap, subst, ℕ, ◌≤◌, Bool, true, false, ◌&&◌, not, List, [], ◌∷◌, ◌++◌}
use Rattle.std.proofs.Common.{length, Option, Some}
use Rattle.std.proofs.lemmas.Bool.{and_parts, and_from}
use Rattle.std.specs.Ordering.{is_lt}
use Rattle.inno_types.specs.{declared.lock.Lock.Lock, declared.value.Schema.Schema, declared.value.Value.Value}
use Rattle.inno_db.specs.Database.{key_of}
use Rattle.store_api.specs.declared.answers.Undo.{Undo}
use Rattle.entries.specs.Pairs.{Pair, key_cmp}
use Rattle.entries.proofs.Order.{key_cmp_total}
use Rattle.sql_plan.specs.Visits.{index_key, primary_key}
use Rattle.world.specs.State.{WorldState}
use Rattle.law_locks.specs.Guards.{has_record}
use Rattle.law_stored_rows.specs.Edits.{clustered_index}
use Rattle.row_search.specs.{declared.scan.Scan.Scan, declared.found.FoundRow.FoundRow, FoundRows.AreFound, Ranges.lies_in, Ranges.lies_below}
use Rattle.row_search.specs.{Ranges.lies_up_to, Ranges.primary_part, Searches.IsSeenAt, Tables.HaveKeys}
use Rattle.row_search.proofs.{KeyOrder.not_lt, KeyOrder.le_is, Keys.IsHome, Keys.one_place, Coming.passes_by, Coming.row_kept, Rows.found_same}
use Rattle.law_locked_rows.specs.Now.{row_now}
use Rattle.law_locked_rows.specs.Locking.{to_come, lies_past, IsLocking, IsAtEntry}
use Rattle.law_locked_rows.proofs.Coming.{same_or_below}

not_not : (b : Bool) → not b ≡ true → b ≡ false
not_not true is = absurd (cc)
not_not false is = refl

module _ {schema : Schema} {scan : Scan} {s txn made : ℕ} {log : List Undo} {entry : List ℕ} {state : WorldState} {granted : List Lock}
    (at : IsAtEntry schema scan s txn made log entry state granted) where
  abbrev above : List ℕ → Bool
  above = to_come scan (Some entry)

  abbrev row_at : Value → Option (List Value)
  row_at = row_now s scan.table state.past

  past_is : (row : List Value) → lies_up_to schema scan entry row ≡ lies_past schema scan above row
  past_is row = ap (λ b. lies_in schema scan row && b) (le_is key_cmp key_cmp_total entry (index_key schema scan.which row))

  -- a row of the range that isn't to come is below the entry, or has it
  pub apart_or_below : (row : List Value) → lies_past schema scan above row ≡ true
      → (index_key schema scan.which row ≡ entry) ⊎ (lies_below schema scan entry row ≡ true)
  apart_or_below row lies =
      let parts = and_parts (lies_in schema scan row) (not (above (index_key schema scan.which row))) lies in
      elim (same_or_below (index_key schema scan.which row) entry
      (not_lt key_cmp key_cmp_total entry (index_key schema scan.which row) (not_not (above (index_key schema scan.which row)) parts.1))) [
        | inl same ↦ inl same
        | inr less ↦ inr (and_from (lies_in schema scan row) (is_lt (key_cmp (index_key schema scan.which row) entry)) parts.0 less)
      ]

  -- the session sees no row of this entry
  pub passes_row : (pairs : List Pair) → HaveKeys schema scan.which pairs row_at
      → ((value : Value) (row : List Value) → row_at value ≡ Some row → lies_in schema scan row ≡ true → index_key schema scan.which row ≢ entry)
      → IsLocking schema scan s txn made log above state granted
  passes_row pairs keys none = record {
    range = λ key may inside. at.range key (may.0, not_lt key_cmp key_cmp_total entry key may.1) inside;
    rows = λ value row is lies. elim (apart_or_below row lies) [
      | inl same ↦ absurd (none value row is (and_parts (lies_in schema scan row) (not (above (index_key schema scan.which row))) lies).0 same)
      | inr less ↦ at.rows value row is less
    ];
    found = found_same schema row_at (lies_up_to schema scan entry) (lies_past schema scan above) (λ value row is. past_is row)
        (passes_by schema scan row_at pairs keys entry at.found none);
  }

  module _ (le : scan.which ≤ length schema.keys) (homes : (value : Value) (row : List Value) → row_at value ≡ Some row → IsHome schema value row)
      (whole : scan.which ≡ 0 → primary_part schema entry ≡ entry) (row : List Value) (seen : IsSeenAt schema row_at (primary_part schema entry) row)
      (own : index_key schema scan.which row ≡ entry) (locked : has_record txn (clustered_index scan.table) (primary_part schema entry) granted ≡ true)
      (rows : Vec FoundRow Global)
      (rows_are : rows.items ≡ scan.rows.items ++ record { key = primary_part schema entry; row = row } ∷ []) where
    pub keeps_row : IsLocking schema (record scan { rows = rows }) s txn made log above state granted
    keeps_row = record {
      range = λ key may inside. at.range key (may.0, not_lt key_cmp key_cmp_total entry key may.1) inside;
      rows = λ value other is lies. elim (apart_or_below other lies) [
        | inl same ↦
            let one : value ≡ key_of schema row = one_place schema scan.which value (key_of schema row) other row le (homes value other is)
            (homes (key_of schema row) row seen.seen) (same ∙ sym own) in
            let rows_one : other ≡ row = some_same other row (sym is ∙ ap row_at one ∙ seen.seen) in
            subst (λ (k : List ℕ). has_record txn (clustered_index scan.table) k granted ≡ true) (seen.key_is ∙ ap (primary_key schema) (sym rows_one)) locked
        | inr less ↦ at.rows value other is less
      ];
      found = found_same schema row_at (lies_up_to schema scan entry) (lies_past schema scan above) (λ value other is. past_is other)
          (subst (λ (found : List FoundRow). AreFound schema scan.which row_at (lies_up_to schema scan entry) found) (sym rows_are)
          (row_kept schema scan row_at le homes entry row seen (record { below = at.found; within = at.within; whole = whole }) own));
    }
      where
        some_same : (a b : List Value) → Some a ≡ Some b → a ≡ b
        some_same a b e = cc
