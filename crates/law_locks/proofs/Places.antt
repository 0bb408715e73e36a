-- Each lock stays on a record of its index, or on the supremum.
use Rattle.std.proofs.Common.{◌≡◌, ◌≢◌, ◌∙◌, ℕ, Bool, true, false, List, [], ◌∷◌, ◌++◌, refl, sym, ap, subst}
use Rattle.std.proofs.lemmas.List.Folds.{list_any-append}
use Rattle.std.specs.Prelude.{◌==◌, ◌&&◌, ◌||◌, not, nat_eq, cond, filter, Option, None, Some}
use Rattle.std.specs.List.{list_any, AllByRecursion}
use Rattle.std.specs.Cmp.Lexicographic.{pointwise}
use Rattle.inno_types.specs.declared.lock.Spot.{Spot}
use Rattle.inno_types.specs.declared.lock.Lock.{Lock}
use Rattle.store_api.specs.declared.answers.Asked.{Asked}
use Rattle.store_api.specs.declared.answers.Asked.TheVariants.{Granted, Waits, NoMemory}
use Rattle.lock_rules.specs.Kinds.{is_intent}
use Rattle.lock_rules.specs.Spots.{same_spot}
use Rattle.lock_rules.specs.Conflicts.{conflicts, kind_of, kinds_conflict, same_lock}
use Rattle.lock_rules.specs.Coverage.{stands_in, without_record}
use Rattle.lock_rules.proofs.Booleans.{and_false, or_false, or_left, or_right, true_false, split}
use Rattle.lock_rules.proofs.Beside.{spot_refl, spot_same, key_refl}
use Rattle.lock_table.specs.Queue.{serve, without, without_lock, is_blocked, is_covered}
use Rattle.lock_table.specs.Records.{uncovered, copies, moved, left_by, elsewhere, after_removal, after_end}
use Rattle.lock_table.specs.Coverage.{IsInsertion}
use Rattle.lock_table.specs.View.{Table, HasPlaces, IsAnswered, IsGranted, must_wait}
use Rattle.lock_table.proofs.Soundness.{all_left, all_copies, all_moved_to, all_uncovered, all_served, copies_free}
use Rattle.law_locks.specs.Stand.{LocksStand, AllStand, Removes}
use Rattle.law_locks.proofs.Spots.{stays, new_not}

-- ---- lists

module _ {A : Type 0} (P : A → Type 0) where
  all_weaker : (Q : A → Type 0) → ((x : A) → P x → Q x) → (xs : List A) → AllByRecursion P xs → AllByRecursion Q xs
  all_weaker Q f [] all = tt
  all_weaker Q f (x ∷ xs) all = (f x all.0, all_weaker Q f xs all.1)

  all_append : (xs ys : List A) → AllByRecursion P xs → AllByRecursion P ys → AllByRecursion P (xs ++ ys)
  all_append [] ys all more = more
  all_append (x ∷ xs) ys all more = (all.0, all_append xs ys all.1 more)

module _ (index : ℕ) (records : List (List ℕ)) where
  abbrev IsThere : Lock → Type 0
  IsThere lock = lock.spot.index ≡ index → stands_in records lock.spot.key ≡ true

  served_stand : (held queue : List Lock) → LocksStand index records held → LocksStand index records queue
      → AllStand index records (serve held [] queue).granted (serve held [] queue).waiting
  served_stand held queue some others = let both = all_served IsThere held [] queue some tt others in record { granted_stand = both.0; waiting_stand = both.1 }

  filtered_stand : (test : Lock → Bool) (locks : List Lock) → LocksStand index records locks → LocksStand index records (filter test locks)
  filtered_stand test [] all = tt
  filtered_stand test (lock ∷ locks) all =
      let rest = filtered_stand test locks all.1 in
      elim (test lock) as (λ b. LocksStand index records (cond b (lock ∷ filter test locks) (filter test locks))) [ true ↦ (all.0, rest) | false ↦ rest ]

  without_stand : (txn : ℕ) (locks : List Lock) → LocksStand index records locks → LocksStand index records (without txn locks)
  without_stand txn locks all = filtered_stand (λ lock. not (lock.txn == txn)) locks all

  -- ---- requests, and what is given back

  pub answered_stand : (old new : Table) (lock : Lock) (answer : Asked) → IsAnswered old new lock answer
      → (lock.spot.index ≡ index → stands_in records lock.spot.key ≡ true) → AllStand index records old.granted old.waiting
      → AllStand index records new.granted new.waiting
  answered_stand old new lock Granted is there all =
      subst (λ (t : Table). AllStand index records t.granted t.waiting) (sym is.lists)
      (record {
        granted_stand = elim (is_covered old.granted lock || is_intent lock.kind) as (λ b. LocksStand index records (cond b old.granted (old.granted ++ lock ∷ []))) [
          | true ↦ all.granted_stand
          | false ↦ all_append IsThere old.granted (lock ∷ []) all.granted_stand (there, tt)
        ];
        waiting_stand = all.waiting_stand;
      })
  answered_stand old new lock (Waits edges) is there all = record {
    granted_stand = subst (LocksStand index records) (sym is.granted) all.granted_stand;
    waiting_stand = subst (LocksStand index records) (sym is.waiting) (all_append IsThere old.waiting (lock ∷ []) all.waiting_stand (there, tt));
  }
  answered_stand old new lock NoMemory is there all = record {
    granted_stand = subst (LocksStand index records) (sym is.granted) all.granted_stand;
    waiting_stand = subst (LocksStand index records) (sym is.waiting) all.waiting_stand;
  }

  pub ended_stand : (txn : ℕ) (granted waiting : List Lock) → AllStand index records granted waiting
      → AllStand index records (after_end txn granted waiting).granted (after_end txn granted waiting).waiting
  ended_stand txn granted waiting all = served_stand (without txn granted) (without txn waiting) (without_stand txn granted all.granted_stand)
      (without_stand txn waiting all.waiting_stand)

  pub withdrawn_stand : (txn : ℕ) (granted waiting : List Lock) → AllStand index records granted waiting
      → AllStand index records (serve granted [] (without txn waiting)).granted (serve granted [] (without txn waiting)).waiting
  withdrawn_stand txn granted waiting all = served_stand granted (without txn waiting) all.granted_stand (without_stand txn waiting all.waiting_stand)

  pub released_stand : (gone : Lock) (granted waiting : List Lock) → AllStand index records granted waiting
      → AllStand index records (serve (without_lock gone granted) [] waiting).granted (serve (without_lock gone granted) [] waiting).waiting
  released_stand gone granted waiting all = served_stand (without_lock gone granted) waiting
      (filtered_stand (λ lock. not (same_lock lock gone)) granted all.granted_stand) all.waiting_stand

-- ---- a record is inserted

module _ (records : List (List ℕ)) (new_key : List ℕ) (new next : Spot) (insertion : IsInsertion records new_key new next) where
  more_stand : (index : ℕ) (spot : Option (List ℕ)) → stands_in records spot ≡ true → stands_in (new_key ∷ records) spot ≡ true
  more_stand index None there = refl
  more_stand index (Some key) there = or_right (pointwise nat_eq new_key key) _ there

  new_stands : stands_in (new_key ∷ records) new.key ≡ true
  new_stands = ap (stands_in (new_key ∷ records)) insertion.new_key ∙ or_left _ _ (key_refl (Some new_key))

  locks_over : (locks : List Lock) → LocksStand new.index records locks → LocksStand new.index (new_key ∷ records) locks
  locks_over locks all = all_weaker (IsThere new.index records) (IsThere new.index (new_key ∷ records))
      (λ lock there here. more_stand new.index lock.spot.key (there here)) locks all

  pub inserted_stand : (txn : ℕ) (granted waiting : List Lock) → AllStand new.index records granted waiting
      → AllStand new.index (new_key ∷ records) (granted ++ copies txn new next granted) waiting
  inserted_stand txn granted waiting all = record {
    granted_stand = all_append (IsThere new.index (new_key ∷ records)) granted (copies txn new next granted) (locks_over granted all.granted_stand)
        (all_copies (IsThere new.index (new_key ∷ records)) txn new next (λ lock here. new_stands) granted);
    waiting_stand = locks_over waiting all.waiting_stand;
  }

  -- no lock stands on the new record
  none_on_new : (locks : List Lock) → LocksStand new.index records locks → (asked : Lock) → asked.spot ≡ new
      → list_any (λ lock. conflicts lock asked) locks ≡ false
  none_on_new [] all asked at = refl
  none_on_new (lock ∷ locks) all asked at =
      or_false (conflicts lock asked) _
      (split (same_spot lock.spot asked.spot)
      (λ same.
      let here : lock.spot ≡ new = spot_same lock.spot asked.spot same ∙ at in
      absurd (new_not records new_key next.key insertion.follows
      (subst (λ (s : Option (List ℕ)). stands_in records s ≡ true) (ap (λ (s : Spot). s.key) here ∙ insertion.new_key)
      (all.0 (ap (λ (s : Spot). s.index) here)))))
      (λ not_same. ap (λ b. not (lock.txn == asked.txn) && b && kinds_conflict (kind_of lock) lock.mode (kind_of asked) asked.mode) not_same
      ∙ ap (λ b. b && kinds_conflict (kind_of lock) lock.mode (kind_of asked) asked.mode) (and_false (not (lock.txn == asked.txn)))))
      (none_on_new locks all.1 asked at)

  -- so the inserter's lock of it is granted at once
  pub new_is_free : (txn : ℕ) (granted waiting : List Lock) (asked : Lock) → AllStand new.index records granted waiting → asked.txn ≡ txn
      → asked.spot ≡ new → is_blocked (granted ++ copies txn new next granted) waiting asked ≡ false
  new_is_free txn granted waiting asked all own at =
      or_false _ _
      (list_any-append (λ lock. conflicts lock asked) granted (copies txn new next granted) ∙ or_false _ _ (none_on_new granted all.granted_stand asked at)
      (copies_free txn new next granted asked own))
      (none_on_new waiting all.waiting_stand asked at)

  pub new_needs_no_wait : (table : Table) (asked : Lock) → AllStand new.index records table.granted table.waiting → asked.spot ≡ new → must_wait table asked ≡ false
  new_needs_no_wait table asked all at =
      ap (λ b. not (is_covered table.granted asked) && b)
      (or_false _ _ (none_on_new table.granted all.granted_stand asked at) (none_on_new table.waiting all.waiting_stand asked at))
      ∙ and_false (not (is_covered table.granted asked))

need_not : (table : Table) (asked : Lock) → is_blocked table.granted table.waiting asked ≡ false → must_wait table asked ≡ false
need_not table asked free = ap (λ b. not (is_covered table.granted asked) && b) free ∙ and_false (not (is_covered table.granted asked))

-- what need not wait, and has room, is granted
pub granted_with_room : (inserted last : Table) (asked : Lock) (answer : Asked) → is_blocked inserted.granted inserted.waiting asked ≡ false
    → HasPlaces 1 inserted
    → IsAnswered inserted last asked answer → IsGranted inserted last asked
granted_with_room inserted last asked Granted free room is = is
granted_with_room inserted last asked (Waits edges) free room is = absurd (true_false _ is.waits (need_not inserted asked free))
granted_with_room inserted last asked NoMemory free room is = absurd (is.full (need_not inserted asked free) room)

-- ---- a record goes

module _ (by : Option ℕ) (records : List (List ℕ)) (gone_key : List ℕ) (gone next : Spot) (removes : Removes records gone_key gone next) where
  abbrev left : List (List ℕ)
  left = without_record gone_key records

  spot_stays : (spot : Option (List ℕ)) → spot ≢ Some gone_key → stands_in records spot ≡ true → stands_in left spot ≡ true
  spot_stays None other there = refl
  spot_stays (Some key) other there = stays gone_key records key (λ e. other (ap Some e)) there

  left_there : (lock : Lock) → same_spot lock.spot gone ≡ false → IsThere gone.index records lock → IsThere gone.index left lock
  left_there lock not_gone there here =
      spot_stays lock.spot.key
      (λ e. true_false _ (ap (λ (s : Spot). same_spot s gone)
      (let same : lock.spot ≡ gone = λ i. record { index = (here i); key = ((e ∙ sym removes.removal.gone_key) i) } in same) ∙ spot_refl gone) not_gone)
      (there here)

  moved_stand : (locks : List Lock) → LocksStand gone.index records locks → LocksStand gone.index left (moved by gone next locks)
  moved_stand locks all =
      all_moved_to (IsThere gone.index left) (IsThere gone.index records) by gone next (λ lock here. removes.next_stands)
      (λ lock there elsewhere. left_there lock elsewhere there) [] locks tt all

  elsewhere_stand : (queue : List Lock) → LocksStand gone.index records queue → LocksStand gone.index left (elsewhere gone queue)
  elsewhere_stand [] all = tt
  elsewhere_stand (lock ∷ queue) all =
      let rest = elsewhere_stand queue all.1 in
      split (same_spot lock.spot gone)
      (λ same. subst (λ b. LocksStand gone.index left (cond (not b) (lock ∷ elsewhere gone queue) (elsewhere gone queue))) (sym same) rest)
      (λ other. subst (λ b. LocksStand gone.index left (cond (not b) (lock ∷ elsewhere gone queue) (elsewhere gone queue))) (sym other)
      (left_there lock other all.0, rest))

  pub removed_stand : (granted waiting : List Lock) → AllStand gone.index records granted waiting
      → AllStand gone.index left (after_removal by gone next granted waiting).granted (after_removal by gone next granted waiting).waiting
  removed_stand granted waiting all =
      served_stand gone.index left (moved by gone next granted ++ uncovered (moved by gone next granted) (left_by by gone next waiting)) (elsewhere gone waiting)
      (all_append (IsThere gone.index left) (moved by gone next granted) (uncovered (moved by gone next granted) (left_by by gone next waiting))
      (moved_stand granted all.granted_stand)
      (all_uncovered (IsThere gone.index left) (moved by gone next granted) (left_by by gone next waiting)
      (all_left (IsThere gone.index left) by gone next (λ lock here. removes.next_stands) waiting)))
      (elsewhere_stand waiting all.waiting_stand)
