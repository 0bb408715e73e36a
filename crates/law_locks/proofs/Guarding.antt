-- What is guarded stays guarded.
use Rattle.std.proofs.Common.{◌≡◌, ◌≢◌, ◌∙◌, ℕ, Bool, true, false, List, [], ◌∷◌, ◌++◌, inl, inr, sym, ap, subst}
use Rattle.std.proofs.lemmas.Bool.{cases_eq, eq-eqb, eqb-true}
use Rattle.std.specs.Prelude.{◌==◌, ◌&&◌, ◌||◌, not, nat_eq, cond, Option, None, Some}
use Rattle.std.specs.List.{list_any, AllByRecursion}
use Rattle.std.specs.Cmp.Lexicographic.{pointwise, bytes_decides}
use Rattle.inno_types.specs.declared.lock.Spot.{Spot}
use Rattle.inno_types.specs.declared.lock.Lock.{Lock}
use Rattle.store_api.specs.declared.answers.Asked.{Asked}
use Rattle.store_api.specs.declared.answers.Undo.{Undo}
use Rattle.store_api.specs.declared.answers.Asked.TheVariants.{Granted, Waits, NoMemory}
use Rattle.lock_rules.specs.Kinds.{is_intent, is_shared, same_kind, same_mode}
use Rattle.lock_rules.specs.Spots.{same_spot}
use Rattle.lock_rules.specs.Conflicts.{same_lock, same_reason}
use Rattle.lock_rules.specs.Coverage.{stands_in, without_record}
use Rattle.lock_rules.specs.Rules.{FitsItsRule}
use Rattle.lock_rules.proofs.Booleans.{first, or_cases, or_right, split}
use Rattle.lock_rules.proofs.Beside.{spot_same}
use Rattle.lock_table.specs.Queue.{serve, without, without_lock, is_covered}
use Rattle.lock_table.specs.Records.{copies, after_removal, after_end}
use Rattle.lock_table.specs.View.{Table, IsAnswered}
use Rattle.lock_table.proofs.Covering.{gone_apart}
use Rattle.law_locks.specs.Guards.{IsSpotOf, is_lock_at, is_gap_lock_at, is_record_lock_at, has_gap, has_record, has_alone, Guards, Guarded, Pins}
use Rattle.law_locks.specs.Stand.{Inserts, Removes}
use Rattle.law_locks.proofs.Spots.{Stands, new_spot, spot_before, stood, stays, gone_not, spot_after}
use Rattle.law_locks.proofs.Locks.{any_front, any_served, any_kept, lock_at, only_inserter, has_copy, moved_keeps, moved_gap, any_removed}

-- ---- the tests on a transaction's locks

-- the list has each lock of the transaction in the index that the other one has
pub record KeepsLocks (txn index : ℕ) (old new : List Lock) : Type 0 where
  pub gaps : (spot : Option (List ℕ)) → has_gap txn index spot old ≡ true → has_gap txn index spot new ≡ true
  pub records : (key : List ℕ) → has_record txn index key old ≡ true → has_record txn index key new ≡ true
  pub alone : (key : List ℕ) → has_alone txn index key old ≡ true → has_alone txn index key new ≡ true

pub guards_kept : (txn index : ℕ) (records : List (List ℕ)) (key : List ℕ) (old new : List Lock) → KeepsLocks txn index old new
    → Guards txn index records old key → Guards txn index records new key
guards_kept txn index records key old new keeps was =
    record { gap = λ spot at. keeps.gaps spot (was.gap spot at); own = λ stands. keeps.records key (was.own stands) }

pub guarded_kept : (txn index : ℕ) (records : List (List ℕ)) (key : List ℕ) (made : ℕ) (log : List Undo) (old new : List Lock)
    → KeepsLocks txn index old new → Guarded txn index records old key made log → Guarded txn index records new key made log
guarded_kept txn index records key made log old new keeps was = elim was [
  | inl guards ↦ inl (guards_kept txn index records key old new keeps guards)
  | inr pinned ↦ inr (record { pins = record { stands = pinned.pins.stands; own = keeps.records key pinned.pins.own }; older = pinned.older })
]

pub all_locks : (txn index : ℕ) (old new : List Lock)
    → ((p : Lock → Bool) → ((lock : Lock) → p lock ≡ true → (lock.txn == txn) ≡ true) → list_any p old ≡ true → list_any p new ≡ true)
    → KeepsLocks txn index old new
all_locks txn index old new each = record {
  gaps = λ spot. each (is_gap_lock_at txn index spot) (λ lock is. own_of (Some spot) lock (first (is_lock_at txn index spot lock) _ is));
  records = λ key. each (is_record_lock_at txn index key) (λ lock is. own_of (Some (Some key)) lock (first (is_lock_at txn index (Some key) lock) _ is));
  alone = λ key. each _
      (λ lock is. own_of (Some (Some key)) lock (first (is_lock_at txn index (Some key) lock) _ (first (is_record_lock_at txn index key lock) _ is)));
}
  where
    spot_in : Option (Option (List ℕ)) → Option (List ℕ)
    spot_in None = None
    spot_in (Some spot) = spot

    own_of : (o : Option (Option (List ℕ))) (lock : Lock) → is_lock_at txn index (spot_in o) lock ≡ true → (lock.txn == txn) ≡ true
    own_of o lock is = eq-eqb lock.txn txn (lock_at txn index (spot_in o) lock is).own

-- ---- grants, and what others give back

pub more_locks : (txn index : ℕ) (old more : List Lock) → KeepsLocks txn index old (old ++ more)
more_locks txn index old more = all_locks txn index old (old ++ more) (λ p own has. any_front p old more has)

pub served_locks : (txn index : ℕ) (held earlier queue : List Lock) → KeepsLocks txn index held (serve held earlier queue).granted
served_locks txn index held earlier queue = all_locks txn index held (serve held earlier queue).granted (λ p own has. any_served p held earlier queue has)

pub answered_locks : (txn index : ℕ) (old new : Table) (lock : Lock) (answer : Asked) → IsAnswered old new lock answer
    → KeepsLocks txn index old.granted new.granted
answered_locks txn index old new lock Granted is =
    subst (λ (t : Table). KeepsLocks txn index old.granted t.granted) (sym is.lists)
    (elim (is_covered old.granted lock || is_intent lock.kind) as (λ b. KeepsLocks txn index old.granted (cond b old.granted (old.granted ++ lock ∷ []))) [
      | true ↦ all_locks txn index old.granted old.granted (λ p own has. has)
      | false ↦ more_locks txn index old.granted (lock ∷ [])
    ])
answered_locks txn index old new lock (Waits edges) is = subst (KeepsLocks txn index old.granted) (sym is.granted)
    (all_locks txn index old.granted old.granted (λ p own has. has))
answered_locks txn index old new lock NoMemory is = subst (KeepsLocks txn index old.granted) (sym is.granted)
    (all_locks txn index old.granted old.granted (λ p own has. has))

differs : (a b other : ℕ) → (a == b) ≡ true → b ≢ other → not (a == other) ≡ true
differs a b other same differ = split (a == other) (λ is. absurd (differ (sym (eqb-true a b same) ∙ eqb-true a other is))) (λ is_not. ap not is_not)

pub ended_locks : (txn index other : ℕ) (granted waiting : List Lock) → txn ≢ other → KeepsLocks txn index granted (after_end other granted waiting).granted
ended_locks txn index other granted waiting differ =
    all_locks txn index granted (after_end other granted waiting).granted
    (λ p own has. any_served p (without other granted) [] (without other waiting)
    (any_kept p (λ lock. not (lock.txn == other)) (λ lock is. differs lock.txn txn other (own lock is) differ) granted has))

pub given_back_locks : (txn index : ℕ) (gone : Lock) (granted waiting : List Lock) → txn ≢ gone.txn
    → KeepsLocks txn index granted (serve (without_lock gone granted) [] waiting).granted
given_back_locks txn index gone granted waiting differ =
    all_locks txn index granted (serve (without_lock gone granted) [] waiting).granted
    (λ p own has. any_served p (without_lock gone granted) [] waiting
    (any_kept p (λ lock. not (same_lock lock gone)) (λ lock is. not_gone lock (own lock is)) granted has))
  where
    not_gone : (lock : Lock) → (lock.txn == txn) ≡ true → not (same_lock lock gone) ≡ true
    not_gone lock own =
        split (lock.txn == gone.txn)
        (λ is. absurd (differ (sym (eqb-true lock.txn txn own) ∙ eqb-true lock.txn gone.txn is)))
        (λ is_not. ap (λ b. not (b && same_spot lock.spot gone.spot && same_kind lock.kind gone.kind && same_mode lock.mode gone.mode && same_reason
        lock.reason gone.reason)) is_not)

-- ---- a record is inserted

module _ (txn inserter : ℕ) (records : List (List ℕ)) (new_key key : List ℕ) (new next : Spot) (old locks : List Lock)
    (inserts : Inserts inserter records new_key new next old locks) where
  index_same : next.index ≡ new.index
  index_same = inserts.insertion.one_index

  kept_gap : (spot : Option (List ℕ)) → has_gap txn new.index spot old ≡ true → has_gap txn new.index spot locks ≡ true
  kept_gap spot has = subst (λ (ls : List Lock). has_gap txn new.index spot ls ≡ true) (sym inserts.locks_are)
      (any_front (is_gap_lock_at txn new.index spot) (old ++ copies inserter new next old) inserts.more
      (any_front (is_gap_lock_at txn new.index spot) old (copies inserter new next old) has))

  kept_record : (k : List ℕ) → has_record txn new.index k old ≡ true → has_record txn new.index k locks ≡ true
  kept_record k has = subst (λ (ls : List Lock). has_record txn new.index k ls ≡ true) (sym inserts.locks_are)
      (any_front (is_record_lock_at txn new.index k) (old ++ copies inserter new next old) inserts.more
      (any_front (is_record_lock_at txn new.index k) old (copies inserter new next old) has))

  at_next : has_gap txn new.index next.key old ≡ true → has_gap txn next.index next.key old ≡ true
  at_next has = subst (λ i. has_gap txn i next.key old ≡ true) (sym index_same) has

  -- whoever has the gap of the next spot is the inserter
  its_own : has_gap txn new.index next.key old ≡ true → txn ≡ inserter
  its_own has =
      elim (cases_eq txn inserter) [
        | inl same ↦ same
        | inr differ ↦ absurd
            (only_inserter inserter next inserts.intention txn old differ inserts.may (at_next has))
      ]

  gap_of_new : has_gap txn new.index next.key old ≡ true → has_gap txn new.index (Some new_key) locks ≡ true
  gap_of_new has =
      let same = its_own has in
      let copied : has_gap inserter new.index new.key (old ++ copies inserter new next old) ≡ true = has_copy inserter new next old
      (subst (λ t. has_gap t next.index next.key old ≡ true) same (at_next has)) in
      subst (λ t. has_gap t new.index (Some new_key) locks ≡ true) (sym same)
      (subst (λ (s : Option (List ℕ)). has_gap inserter new.index s locks ≡ true) inserts.insertion.new_key
      (subst (λ (ls : List Lock). has_gap inserter new.index new.key ls ≡ true) (sym inserts.locks_are)
      (any_front (is_gap_lock_at inserter new.index new.key) (old ++ copies inserter new next old) inserts.more copied)))

  pub inserted_guards : Guards txn new.index records old key → Guards txn new.index (new_key ∷ records) locks key
  inserted_guards was = record {
    gap = λ spot at. elim (spot_before records new_key key next.key inserts.insertion.next_stands inserts.insertion.follows spot at) [
      | inl before ↦ kept_gap spot (was.gap spot before)
      | inr (here, before) ↦ subst (λ (s : Option (List ℕ)). has_gap txn new.index s locks ≡ true) (sym here) (gap_of_new (was.gap next.key before))
    ];
    own = λ stands. elim (or_cases (pointwise nat_eq new_key key) _ stands) [
      | inl same ↦
          let is : new_key ≡ key = (bytes_decides new_key key).0 same in
          let mine : txn ≡ inserter = its_own
          (was.gap next.key (subst (λ (k : List ℕ). IsSpotOf records k next.key) is
          (new_spot records new_key new_key next.key inserts.insertion.next_stands inserts.insertion.follows))) in
          subst (λ t. has_record t new.index key locks ≡ true) (sym mine)
          (subst (λ (k : List ℕ). has_record inserter new.index k locks ≡ true) is inserts.its_own)
      | inr there ↦ kept_record key (was.own there)
    ];
  }

  pub inserted_pins : Pins txn new.index records old key → Pins txn new.index (new_key ∷ records) locks key
  inserted_pins was = record { stands = or_right (pointwise nat_eq new_key key) _ was.stands; own = kept_record key was.own }

-- ---- a record goes

module _ (txn : ℕ) (by : Option ℕ) (records : List (List ℕ)) (gone_key key : List ℕ) (gone next : Spot) (granted waiting : List Lock)
    (removes : Removes records gone_key gone next) where
  abbrev left : List (List ℕ)
  left = without_record gone_key records

  abbrev after : List Lock
  after = (after_removal by gone next granted waiting).granted

  not_there : (spot : Option (List ℕ)) → spot ≢ Some gone_key → (lock : Lock) → is_lock_at txn gone.index spot lock ≡ true → same_spot lock.spot gone ≡ false
  not_there spot other lock is =
      split (same_spot lock.spot gone)
      (λ same. absurd (other (sym (lock_at txn gone.index spot lock is).key ∙ ap (λ (s : Spot). s.key) (spot_same lock.spot gone same) ∙
      removes.removal.gone_key)))
      (λ is_not. is_not)

  kept : (p : Lock → Bool) (spot : Option (List ℕ)) → spot ≢ Some gone_key → ((lock : Lock) → p lock ≡ true → is_lock_at txn gone.index spot lock ≡ true)
      → list_any p granted ≡ true → list_any p after ≡ true
  kept p spot other at has = any_removed by gone next p granted waiting
      (moved_keeps by gone next p (λ lock is. not_there spot other lock (at lock is)) granted has)

  some_other : (k : List ℕ) → k ≢ gone_key → ◌≢◌ {A = Option (List ℕ)} (Some k) (Some gone_key)
  some_other k other e = other (let same : k ≡ gone_key = cc in same)

  -- locks of other records stay
  pub removed_record : (k : List ℕ) → k ≢ gone_key → has_record txn gone.index k granted ≡ true → has_record txn gone.index k after ≡ true
  removed_record k other has = kept (is_record_lock_at txn gone.index k) (Some k) (some_other k other)
      (λ lock is. first (is_lock_at txn gone.index (Some k) lock) _ is) has

  pub removed_alone : (k : List ℕ) → k ≢ gone_key → has_alone txn gone.index k granted ≡ true → has_alone txn gone.index k after ≡ true
  removed_alone k other has =
      kept (λ lock. is_record_lock_at txn gone.index k lock && not (is_shared lock.mode)) (Some k) (some_other k other)
      (λ lock is. first (is_lock_at txn gone.index (Some k) lock) _ (first (is_record_lock_at txn gone.index k lock) _ is)) has

  moved_to_next : AllByRecursion FitsItsRule granted → has_gap txn gone.index (Some gone_key) granted ≡ true → has_gap txn gone.index next.key after ≡ true
  moved_to_next fit has =
      subst (λ i. has_gap txn i next.key after ≡ true) removes.removal.one_index
      (any_removed by gone next (is_gap_lock_at txn next.index next.key) granted waiting
      (moved_gap by gone next (gone_apart records gone_key gone next removes.removal) txn granted fit (subst (λ (s : Option (List ℕ)). has_gap txn gone.index s granted ≡ true) (sym removes.removal.gone_key) has)))

  pub removed_guards : AllByRecursion FitsItsRule granted → Guards txn gone.index records granted key → Guards txn gone.index left after key
  removed_guards fit was = record {
    gap =
        λ spot at. elim (spot_after gone_key records next.key
        (subst (λ (s : Option (List ℕ)). stands_in records s ≡ true) removes.removal.gone_key removes.stands) removes.next_stands removes.removal.follows
        key spot at) [
          | inl before ↦ kept (is_gap_lock_at txn gone.index spot) spot
              (λ e. gone_not gone_key records (subst (λ (s : Option (List ℕ)). stands_in left s ≡ true) e at.stands))
              (λ lock is. first (is_lock_at txn gone.index spot lock) _ is) (was.gap spot before)
          | inr (here, before) ↦ subst (λ (s : Option (List ℕ)). has_gap txn gone.index s after ≡ true) (sym here)
              (moved_to_next fit (was.gap (Some gone_key) before))
        ];
    own = λ stands. removed_record key (λ e. gone_not gone_key records (subst (Stands left) e stands)) (was.own (stood gone_key records key stands));
  }

  pub removed_pins : key ≢ gone_key → Pins txn gone.index records granted key → Pins txn gone.index left after key
  removed_pins other was = record { stands = stays gone_key records key other was.stands; own = removed_record key other was.own }
