-- What each transaction guards in each index stays through a step of the world that changes one pair, with the calls of the lock table
-- that go with it. And locks stand on records.
use Rattle.std.proofs.Common.{◌≡◌, ◌≢◌, ◌∙◌, inl, inr, sym, ap, subst, ℕ, Bool, true, List, Option, None, Some}
use Rattle.std.proofs.lemmas.Bool.{cases_eq}
use Rattle.std.specs.List.{list_any, AllByRecursion}
use Rattle.inno_types.specs.{declared.lock.Lock.Lock, declared.lock.Spot.Spot}
use Rattle.entries.specs.Pairs.{Pair}
use Rattle.law_stored_rows.specs.Edits.{Puts}
use Rattle.law_stored_rows.proofs.Pairs.{at_index, at_others}
use Rattle.lock_rules.specs.Spots.{same_spot}
use Rattle.lock_rules.specs.Rules.{FitsItsRule}
use Rattle.lock_rules.proofs.Booleans.{first, split}
use Rattle.lock_rules.proofs.Beside.{spot_same}
use Rattle.lock_table.specs.Records.{after_removal}
use Rattle.lock_table.specs.View.{Table}
use Rattle.law_locks.specs.Guards.{Guards, is_lock_at, is_gap_lock_at, is_record_lock_at}
use Rattle.law_locks.proofs.Guarding.{guards_kept, removed_guards}
use Rattle.law_locks.proofs.Locks.{any_removed, moved_keeps, lock_at}
use Rattle.law_locks.specs.Index.{keys_of, spot_at, next_spot, InsertsIn, StandsIn}
use Rattle.law_locks.proofs.AtOnce as at_once
use Rattle.law_locks.proofs.InsertionSpots as spots

-- each guard, in each index
abbrev pub GuardsStay : (ℕ → List Pair) → (ℕ → List Pair) → List Lock → List Lock → Type 0
GuardsStay old new granted now =
    (txn index : ℕ) (key : List ℕ) → Guards txn index (keys_of (old index)) granted key → Guards txn index (keys_of (new index)) now key

module _ (index : ℕ) (key : List ℕ) (old new : ℕ → List Pair) where
  -- at another index no pair has changed
  elsewhere_same : (value : Option (List ℕ)) → Puts old new index key value → (i : ℕ) → i ≢ index → keys_of (new i) ≡ keys_of (old i)
  elsewhere_same value puts i differs = ap keys_of (at_others old new index key value i puts differs)

  -- a pair of a new key is put
  pub guards_put : (txn : ℕ) (value : List ℕ) (intention own : Lock) (granted last : Table) → Puts old new index key (Some value)
      → InsertsIn txn index (old index) key intention own granted last → GuardsStay old new granted.granted last.granted
  guards_put txn value intention own granted last puts inserts other i guarded was = elim (cases_eq i index) [
    | inl same ↦
        let At : ℕ → Type 0 = λ n. Guards other n (keys_of (old n)) granted.granted guarded → Guards other n (keys_of (new n)) last.granted guarded in
        subst At (sym same) (λ here. subst (λ (records : List (List ℕ)). Guards other index records last.granted guarded)
        (sym (ap keys_of (at_index old new index key (Some value) puts)))
        (spots.guards_again (spots.same_with key value (old index)) other index last.granted guarded
        (at_once.guards_then txn (keys_of (old index)) key (spot_at index key) (next_spot index key (old index)) intention own granted last
        (spots.at_once inserts) other guarded here))) was
    | inr differs ↦ subst (λ (records : List (List ℕ)). Guards other i records last.granted guarded) (sym (elsewhere_same (Some value) puts i differs))
        (guards_kept other i (keys_of (old i)) guarded granted.granted last.granted
        (at_once.keeps txn (keys_of (old index)) key (spot_at index key) (next_spot index key (old index)) intention own granted last (spots.at_once inserts)
        other i) was)
  ]

  -- the value of a pair is replaced
  pub guards_over : (value : List ℕ) (granted : List Lock) → Puts old new index key (Some value) → StandsIn (old index) key
      → GuardsStay old new granted granted
  guards_over value granted puts stands other i guarded was = elim (cases_eq i index) [
    | inl same ↦
        let At : ℕ → Type 0 = λ n. Guards other n (keys_of (old n)) granted guarded → Guards other n (keys_of (new n)) granted guarded in
        subst At (sym same) (λ here. subst (λ (records : List (List ℕ)). Guards other index records granted guarded)
        (sym (ap keys_of (at_index old new index key (Some value) puts)))
        (spots.guards_again (spots.same_over key value (old index) stands.there) other index granted guarded here)) was
    | inr differs ↦ subst (λ (records : List (List ℕ)). Guards other i records granted guarded) (sym (elsewhere_same (Some value) puts i differs)) was
  ]

  -- ---- a pair is removed

  module _ (by : Option ℕ) (granted waiting : List Lock) where
    abbrev after : List Lock
    after = (after_removal by (spot_at index key) (next_spot index key (old index)) granted waiting).granted

    kept_elsewhere : (p : Lock → Bool) (txn i : ℕ) (spot : Option (List ℕ)) → i ≢ index → ((lock : Lock) → p lock ≡ true → is_lock_at txn i spot lock ≡ true)
        → list_any p granted ≡ true → list_any p after ≡ true
    kept_elsewhere p txn i spot differs at has =
        any_removed by (spot_at index key) (next_spot index key (old index)) p granted waiting
        (moved_keeps by (spot_at index key) (next_spot index key (old index)) p (λ lock is. split (same_spot lock.spot (spot_at index key))
        (λ same. absurd (differs (sym (lock_at txn i spot lock (at lock is)).here ∙ ap (λ (s : Spot). s.index) (spot_same lock.spot (spot_at index key) same))))
        (λ not_same. not_same)) granted has)

    pub guards_gone : Puts old new index key None → StandsIn (old index) key → AllByRecursion FitsItsRule granted → GuardsStay old new granted after
    guards_gone puts stands fit other i guarded was = elim (cases_eq i index) [
      | inl same ↦
          let At : ℕ → Type 0 = λ n. Guards other n (keys_of (old n)) granted guarded → Guards other n (keys_of (new n)) after guarded in
          subst At (sym same) (λ here. subst (λ (records : List (List ℕ)). Guards other index records after guarded)
          (sym (ap keys_of (at_index old new index key None puts)))
          (spots.guards_again (spots.same_without key (old index) stands.rising) other index after guarded
          (removed_guards other by (keys_of (old index)) key guarded (spot_at index key) (next_spot index key (old index)) granted waiting
          (spots.removes key (old index) stands.rising index stands.there) fit here))) was
      | inr differs ↦ subst (λ (records : List (List ℕ)). Guards other i records after guarded) (sym (elsewhere_same None puts i differs)) (record {
        gap = λ spot at. kept_elsewhere (is_gap_lock_at other i spot) other i spot differs (λ lock is. first (is_lock_at other i spot lock) _ is)
            (was.gap spot at);
        own = λ there. kept_elsewhere (is_record_lock_at other i guarded) other i (Some guarded) differs
            (λ lock is. first (is_lock_at other i (Some guarded) lock) _ is) (was.own there);
      })
    ]
