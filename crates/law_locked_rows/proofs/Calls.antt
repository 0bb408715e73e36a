-- What the calls of the lock table, and pairs that come and go, leave to a search of another transaction.
-- `SearchSteps` asks it of each call: it gives `LeavesGuards` (specs/Keeping.antt). What else the calls do is told in `law_locks`.
use Rattle.std.proofs.Common.{◌≡◌, ◌≢◌, ◌∙◌, inl, inr, sym, ap, subst, ℕ, Bool, true, List, [], Option, None, Some}
use Rattle.std.proofs.lemmas.Bool.{cases_eq}
use Rattle.std.specs.List.{list_any, AllByRecursion}
use Rattle.inno_types.specs.{declared.lock.Lock.Lock, declared.lock.Spot.Spot}
use Rattle.inno_db.specs.Indexes.{index_of}
use Rattle.store_api.specs.declared.answers.Asked.{Asked}
use Rattle.store_api.specs.declared.answers.Undo.{Undo}
use Rattle.law_stored_rows.specs.Edits.{Puts, clustered_index}
use Rattle.law_stored_rows.proofs.Pairs.{at_index, at_others}
use Rattle.world.specs.{State.WorldState, Told.pairs_of}
use Rattle.lock_rules.specs.Rules.{FitsItsRule}
use Rattle.lock_table.specs.Queue.{AreApart, serve, without, without_lock}
use Rattle.lock_table.specs.Records.{after_removal, after_end}
use Rattle.lock_table.specs.View.{Table, IsAnswered}
use Rattle.std.specs.Prelude.{◌&&◌, not}
use Rattle.lock_rules.specs.Kinds.{is_shared}
use Rattle.lock_rules.specs.Spots.{same_spot}
use Rattle.lock_rules.proofs.Booleans.{first, split}
use Rattle.lock_rules.proofs.Beside.{spot_same}
use Rattle.law_locks.specs.Stand.{Removes}
use Rattle.law_locks.specs.Guards.{Guarded, has_record, has_alone, is_lock_at, is_gap_lock_at, is_record_lock_at}
use Rattle.law_locks.proofs.{Locks.any_removed, Locks.moved_keeps, Locks.lock_at, Clashes.nobody_beside, Guarding.removed_record}
use Rattle.law_locks.proofs.{Pinning.removed_by_other}
use Rattle.law_locks.proofs.Guarding.{KeepsLocks, guarded_kept, answered_locks, ended_locks, given_back_locks, served_locks}
use Rattle.law_locks.specs.Index.{keys_of, spot_at, next_spot, InsertsIn, StandsIn}
use Rattle.law_locks.proofs.AtOnce as at_once
use Rattle.law_locks.proofs.InsertionSpots as spots
use Rattle.row_search.specs.declared.scan.Scan.{Scan}
use Rattle.law_locked_rows.specs.Locking.{records_in}
use Rattle.law_locked_rows.specs.Keeping.{LeavesGuards}

-- ---- pairs stay

module _ (scan : Scan) (txn made : ℕ) (log : List Undo) {old new : WorldState}
    (pairs : (index : ℕ) → keys_of (pairs_of new index) ≡ keys_of (pairs_of old index)) where
  pub leaves_by : {granted now : List Lock} → ((index : ℕ) → KeepsLocks txn index granted now) → LeavesGuards scan txn made log old new granted now
  leaves_by {granted} {now} keeps = record {
    guards = λ key was. subst (λ (records : List (List ℕ)). Guarded txn (index_of scan.table scan.which) records now key made log)
        (sym (pairs (index_of scan.table scan.which)))
        (guarded_kept txn (index_of scan.table scan.which) (records_in old (index_of scan.table scan.which)) key made log granted now
        (keeps (index_of scan.table scan.which)) was);
    records = (keeps (clustered_index scan.table)).records;
  }

  -- a request, by whomever, whatever it is answered
  pub asked_leaves : (before after : Table) (lock : Lock) (answer : Asked) → IsAnswered before after lock answer
      → LeavesGuards scan txn made log old new before.granted after.granted
  asked_leaves before after lock answer is = leaves_by (λ index. answered_locks txn index before after lock answer is)

  -- another transaction ends
  pub ended_leaves : (other : ℕ) (granted waiting : List Lock) → txn ≢ other → LeavesGuards scan txn made log old new granted
      (after_end other granted waiting).granted
  ended_leaves other granted waiting differs = leaves_by (λ index. ended_locks txn index other granted waiting differs)

  -- it gives one lock back
  pub given_back_leaves : (gone : Lock) (granted waiting : List Lock) → txn ≢ gone.txn
      → LeavesGuards scan txn made log old new granted (serve (without_lock gone granted) [] waiting).granted
  given_back_leaves gone granted waiting differs = leaves_by (λ index. given_back_locks txn index gone granted waiting differs)

  -- a request is taken back
  pub withdrawn_leaves : (other : ℕ) (granted waiting : List Lock) → LeavesGuards scan txn made log old new granted
      (serve granted [] (without other waiting)).granted
  withdrawn_leaves other granted waiting = leaves_by (λ index. served_locks txn index granted [] (without other waiting))

-- ---- a pair comes, is replaced, or goes

module _ (scan : Scan) (txn made : ℕ) (log : List Undo) (old new : WorldState) (index : ℕ) (key : List ℕ) where
  abbrev Stays : List Lock → List Lock → ℕ → Type 0
  Stays granted now i =
      (guarded : List ℕ) → Guarded txn i (records_in old i) granted guarded made log → Guarded txn i (records_in new i) now guarded made log

  elsewhere : (value : Option (List ℕ)) → Puts (pairs_of old) (pairs_of new) index key value → (i : ℕ) → i ≢ index → records_in new i ≡ records_in old i
  elsewhere value puts i differs = ap keys_of (at_others (pairs_of old) (pairs_of new) index key value i puts differs)

  by_index : (granted now : List Lock) → Stays granted now index → ((i : ℕ) → i ≢ index → Stays granted now i) → (i : ℕ) → Stays granted now i
  by_index granted now here there i = elim (cases_eq i index) [ inl same ↦ subst (Stays granted now) (sym same) here | inr differs ↦ there i differs ]

  -- A pair of a new key is put, in the step in which its intention is granted.
  pub put_leaves : (inserter : ℕ) (value : List ℕ) (intention own : Lock) (granted last : Table) → Puts (pairs_of old) (pairs_of new) index key (Some value)
      → InsertsIn inserter index (pairs_of old index) key intention own granted last → LeavesGuards scan txn made log old new granted.granted last.granted
  put_leaves inserter value intention own granted last puts inserts =
      let keeps = at_once.keeps inserter (keys_of (pairs_of old index)) key (spot_at index key)
      (next_spot index key (pairs_of old index)) intention own granted last
      (spots.at_once inserts) txn in
      record {
        guards = by_index granted.granted last.granted
            (λ guarded was. subst (λ (records : List (List ℕ)). Guarded txn index records last.granted guarded made log)
            (sym (ap keys_of (at_index (pairs_of old) (pairs_of new) index key (Some value) puts)))
            (spots.guarded_again (spots.same_with key value (pairs_of old index)) txn index last.granted guarded made log
            (at_once.guarded_then inserter (keys_of (pairs_of old index)) key (spot_at index key)
            (next_spot index key (pairs_of old index)) intention own granted
            last (spots.at_once inserts) txn guarded made log was)))
            (λ i differs guarded was. subst (λ (records : List (List ℕ)). Guarded txn i records last.granted guarded made log)
            (sym (elsewhere (Some value) puts i differs))
            (guarded_kept txn i (records_in old i) guarded made log granted.granted last.granted (keeps i) was)) (index_of scan.table scan.which);
        records = (keeps (clustered_index scan.table)).records;
      }

  -- The value of one is replaced.
  pub over_leaves : (value : List ℕ) (granted : List Lock) → Puts (pairs_of old) (pairs_of new) index key (Some value) → StandsIn (pairs_of old index) key
      → LeavesGuards scan txn made log old new granted granted
  over_leaves value granted puts stands = record {
    guards = by_index granted granted
        (λ guarded was. subst (λ (records : List (List ℕ)). Guarded txn index records granted guarded made log)
        (sym (ap keys_of (at_index (pairs_of old) (pairs_of new) index key (Some value) puts)))
        (spots.guarded_again (spots.same_over key value (pairs_of old index) stands.there) txn index granted guarded made log was))
        (λ i differs guarded was. subst (λ (records : List (List ℕ)). Guarded txn i records granted guarded made log)
        (sym (elsewhere (Some value) puts i differs)) was) (index_of scan.table scan.which);
    records = λ k has. has;
  }

  -- One goes, by whom has it alone.
  module _ (by : ℕ) (granted waiting : List Lock) (puts : Puts (pairs_of old) (pairs_of new) index key None) (stands : StandsIn (pairs_of old index) key)
      (fit : AllByRecursion FitsItsRule granted) (differ : txn ≢ by) (apart : AreApart granted) (alone : has_alone by index key granted ≡ true) where
    abbrev after : List Lock
    after = (after_removal (Some by) (spot_at index key) (next_spot index key (pairs_of old index)) granted waiting).granted

    away : (i : ℕ) (spot : Option (List ℕ)) (p : Lock → Bool) → i ≢ index → ((lock : Lock) → p lock ≡ true → is_lock_at txn i spot lock ≡ true)
        → list_any p granted ≡ true → list_any p after ≡ true
    away i spot p differs at has =
        any_removed (Some by) (spot_at index key) (next_spot index key (pairs_of old index)) p granted waiting
        (moved_keeps (Some by) (spot_at index key) (next_spot index key (pairs_of old index)) p (λ lock is. split (same_spot lock.spot (spot_at index key))
        (λ same. absurd (differs (sym (lock_at txn i spot lock (at lock is)).here ∙ ap (λ (s : Spot). s.index) (spot_same lock.spot (spot_at index key) same))))
        (λ not_same. not_same)) granted has)

    away_keeps : (i : ℕ) → i ≢ index → KeepsLocks txn i granted after
    away_keeps i differs = record {
      gaps = λ spot. away i spot (is_gap_lock_at txn i spot) differs (λ lock is. first (is_lock_at txn i spot lock) _ is);
      records = λ k. away i (Some k) (is_record_lock_at txn i k) differs (λ lock is. first (is_lock_at txn i (Some k) lock) _ is);
      alone = λ k. away i (Some k) (λ lock. is_record_lock_at txn i k lock && not (is_shared lock.mode)) differs
          (λ lock is. first (is_lock_at txn i (Some k) lock) _ (first (is_record_lock_at txn i k lock) _ is));
    }

    removes : Removes (keys_of (pairs_of old index)) key (spot_at index key) (next_spot index key (pairs_of old index))
    removes = spots.removes key (pairs_of old index) stands.rising index stands.there

    pub gone_leaves : LeavesGuards scan txn made log old new granted after
    gone_leaves = record {
      guards = by_index granted after
          (λ guarded was. subst (λ (records : List (List ℕ)). Guarded txn index records after guarded made log)
          (sym (ap keys_of (at_index (pairs_of old) (pairs_of new) index key None puts)))
          (spots.guarded_again (spots.same_without key (pairs_of old index) stands.rising) txn index after guarded made log
          (removed_by_other txn by (keys_of (pairs_of old index)) key guarded (spot_at index key)
          (next_spot index key (pairs_of old index)) granted waiting removes
          fit made log differ apart alone was)))
          (λ i differs guarded was. subst (λ (records : List (List ℕ)). Guarded txn i records after guarded made log)
          (sym (elsewhere None puts i differs)) (guarded_kept txn i (records_in old i) guarded made log granted after (away_keeps i differs) was))
          (index_of scan.table scan.which);
      records = λ k has. elim (cases_eq (clustered_index scan.table) index) [
        | inl same ↦ subst (λ i. has_record txn i k after ≡ true) (sym same)
            (let here : has_record txn index k granted ≡ true = subst (λ i. has_record txn i k granted ≡ true) same has in
            removed_record txn (Some by) (keys_of (pairs_of old index)) key k (spot_at index key)
            (next_spot index key (pairs_of old index)) granted waiting removes k
            (λ gone. nobody_beside txn by index key differ granted apart alone (subst (λ (q : List ℕ). has_record txn index q granted ≡ true) gone here)) here)
        | inr differs ↦ (away_keeps (clustered_index scan.table) differs).records k has
      ];
    }
