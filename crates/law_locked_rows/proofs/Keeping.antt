-- A step of another session leaves to a search that locks all that it knows.
-- `SearchSteps` and `Committing` cite it. What a step leaves is asked as `StayOrFail` and `LeavesGuards` (specs/Keeping.antt).
use Rattle.std.proofs.Common.{arith, ◌≡◌, ◌≢◌, ◌∙◌, inl, inr, refl, sym, ap, subst, ℕ, Bool, true, cond, List, [], ◌∷◌, Option, None, Some}
use Rattle.std.proofs.lemmas.Bool.{true≢false}
use Rattle.std.specs.List.{AllByRecursion}
use Rattle.inno_types.specs.{declared.lock.Lock.Lock, declared.value.Schema.Schema, declared.value.Value.Value}
use Rattle.inno_db.specs.Database.{key_of}
use Rattle.inno_model.specs.{declared.event.Event.Event, Past.commits}
use Rattle.store_api.specs.declared.answers.Undo.{Undo}
use Rattle.law_past_agreement.specs.{Order.IsOrdered, Rows.row_seen}
use Rattle.law_found_rows.specs.Pasts.{AddsAtMostOne}
use Rattle.law_found_rows.proofs.Seen.{row_stays}
use Rattle.world.specs.State.{WorldState}
use Rattle.row_search.specs.{declared.scan.Scan.Scan, declared.found.FoundRow.FoundRow, FoundRows.AreFound, FoundRows.IsSeenRow, FoundRows.once_if}
use Rattle.row_search.specs.{Ranges.lies_below}
use Rattle.row_search.proofs.Rows.{found_pass}
use Rattle.law_locked_rows.specs.Now.{row_now}
use Rattle.law_locked_rows.specs.Locking.{lies_past, AreLocked, IsLocking, IsAtEntry}
use Rattle.law_locked_rows.specs.Keeping.{LeavesGuards}
use Rattle.law_locked_rows.specs.Keeping.{Fails, StayOrFail}

none_once : (passes : List Value → Bool) (found : Option (List Value)) → Fails passes found → once_if passes found ≡ 0
none_once passes None fails = refl
none_once passes (Some row) fails = ap (λ b. cond b 1 0) fails

-- rows that were found are found still
pub found_stay : {schema : Schema} {which : ℕ} {old new : Value → Option (List Value)} {passes : List Value → Bool} {rows : List FoundRow}
    → StayOrFail passes old new → AreFound schema which old passes rows → AreFound schema which new passes rows
found_stay {schema} {which} {old} {new} {passes} {rows} stay is = record {
  seen = each rows (found_pass schema old passes rows is);
  once = λ value. elim (stay value) [
    | inl same ↦ is.once value ∙ ap (once_if passes) (sym same)
    | inr fail ↦ is.once value ∙ none_once passes (old value) fail.0 ∙ sym (none_once passes (new value) fail.1)
  ];
  order = is.order;
}
  where
    one : (found : FoundRow) → passes found.row ≡ true → IsSeenRow schema old found → IsSeenRow schema new found
    one found passing seen = elim (stay (key_of schema found.row)) [
      | inl same ↦ record { seen = same ∙ seen.seen; key_is = seen.key_is }
      | inr fail ↦ absurd (true≢false (sym passing ∙ subst (Fails passes) seen.seen fail.0))
    ]

    each : (some : List FoundRow) → AllByRecursion (λ found. (passes found.row ≡ true) × IsSeenRow schema old found) some
        → AllByRecursion (IsSeenRow schema new) some
    each [] all = tt
    each (found ∷ some) all = (one found all.0.0 all.0.1, each some all.1)

locked_stay : (schema : Schema) (scan : Scan) (s : ℕ) {txn made : ℕ} {log : List Undo} {old new : WorldState} {granted now : List Lock}
    {passes : List Value → Bool}
    → LeavesGuards scan txn made log old new granted now → StayOrFail passes (row_now s scan.table old.past) (row_now s scan.table new.past)
    → AreLocked schema scan.table s passes txn old granted → AreLocked schema scan.table s passes txn new now
locked_stay schema scan s {passes = passes} leaves stay locked value row is lies = elim (stay value) [
  | inl same ↦ leaves.records _ (locked value row (sym same ∙ is) lies)
  | inr fail ↦ absurd (true≢false (sym lies ∙ subst (Fails passes) is fail.1))
]

module _ {schema : Schema} {scan : Scan} {s txn made : ℕ} {log : List Undo} {old new : WorldState} {granted now : List Lock}
    (leaves : LeavesGuards scan txn made log old new granted now) where
  pub locking_kept : {passes : List ℕ → Bool} → StayOrFail (lies_past schema scan passes) (row_now s scan.table old.past) (row_now s scan.table new.past)
      → IsLocking schema scan s txn made log passes old granted → IsLocking schema scan s txn made log passes new now
  locking_kept stay is = record {
    range = λ key may within. leaves.guards key (is.range key may within);
    rows = locked_stay schema scan s leaves stay is.rows;
    found = found_stay stay is.found;
  }

  pub entry_kept : {entry : List ℕ} → StayOrFail (lies_below schema scan entry) (row_now s scan.table old.past) (row_now s scan.table new.past)
      → IsAtEntry schema scan s txn made log entry old granted → IsAtEntry schema scan s txn made log entry new now
  entry_kept stay is = record {
    within = is.within;
    range = λ key may within. leaves.guards key (is.range key may within);
    rows = locked_stay schema scan s leaves stay is.rows;
    found = found_stay stay is.found;
  }

-- Another's entry that isn't its commit leaves what a session sees now.
pub now_stays : (t s table : ℕ) (old new : List Event) → IsOrdered old → t ≢ s → AddsAtMostOne t old new → commits new ≡ commits old
    → (value : Value) → row_now s table new value ≡ row_now s table old value
now_stays t s table old new ordered differ adds same value =
    ap (λ n. row_seen new s n (record { table = table; key = value })) same
    ∙ row_stays t s old new ordered differ (commits old) (record { table = table; key = value }) (omega arith) adds

pub all_stay : (t s table : ℕ) (old new : List Event) (passes : List Value → Bool) → IsOrdered old → t ≢ s → AddsAtMostOne t old new → commits new ≡ commits old
    → StayOrFail passes (row_now s table old) (row_now s table new)
all_stay t s table old new passes ordered differ adds same value = inl (now_stays t s table old new ordered differ adds same value)
