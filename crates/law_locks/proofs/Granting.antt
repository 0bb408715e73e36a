-- What locks on a spot guard, and what a granted request has locked.
use Rattle.std.proofs.Common.{◌≡◌, ℕ, Bool, true, false, List, [], ◌∷◌, ◌++◌, inl, inr, refl, sym, ap, subst}
use Rattle.std.specs.Prelude.{◌&&◌, ◌||◌, not, cond, Option, Some, is_some}
use Rattle.std.specs.List.{list_any}
use Rattle.inno_types.specs.declared.lock.Lock.{Lock}
use Rattle.lock_rules.specs.Kinds.{locks_gap, locks_record, is_intent, is_shared}
use Rattle.lock_rules.specs.Conflicts.{kind_of}
use Rattle.lock_rules.specs.Coverage.{stands_in, is_in_gap}
use Rattle.lock_rules.proofs.Booleans.{both, split}
use Rattle.lock_table.specs.Queue.{is_covered}
use Rattle.lock_table.specs.View.{Table, IsGranted}
use Rattle.law_locks.specs.Guards.{Guards, is_lock_at, is_gap_lock_at, is_record_lock_at, has_gap, has_record, has_alone}
use Rattle.law_locks.proofs.Spots.{one_gap, new_not}
use Rattle.lock_table.proofs.Stronger.{GoesOver, any_covering}
use Rattle.lock_table.proofs.Covering.{no_intent}
use Rattle.law_locks.proofs.Locks.{any_behind, at_lock, gap_over, record_over, alone_over}

-- ---- spots

module _ (txn index : ℕ) (records : List (List ℕ)) (locks : List Lock) where
  pub gap_guards : (spot : Option (List ℕ)) (key : List ℕ) → stands_in records spot ≡ true → has_gap txn index spot locks ≡ true
      → is_in_gap records spot key ≡ true → Guards txn index records locks key
  gap_guards spot key stands has gap = record {
    gap = λ other at. elim at.at [
      | inl here ↦ absurd (new_not records key spot gap (subst (λ (s : Option (List ℕ)). stands_in records s ≡ true) here at.stands))
      | inr also ↦ subst (λ (s : Option (List ℕ)). has_gap txn index s locks ≡ true) (one_gap records key spot other stands at.stands gap also) has
    ];
    own = λ there. absurd (new_not records key spot gap there);
  }

  pub next_key_guards : (key : List ℕ) → stands_in records (Some key) ≡ true → has_gap txn index (Some key) locks ≡ true
      → has_record txn index key locks ≡ true → Guards txn index records locks key
  next_key_guards key stands gap own = record {
    gap = λ other at. elim at.at [
      | inl here ↦ subst (λ (s : Option (List ℕ)). has_gap txn index s locks ≡ true) (sym here) gap
      | inr also ↦ absurd (new_not records key other also stands)
    ];
    own = λ there. own;
  }

-- ---- a granted request

module _ (lock : Lock) where
  abbrev here : Lock → Bool
  here held = is_lock_at lock.txn lock.spot.index lock.spot.key held

  itself : here lock ≡ true
  itself = at_lock lock.txn lock.spot.index lock.spot.key lock (record { own = refl; here = refl; key = refl })

  -- whatever the lock has, and each lock that covers it, is had
  has_one : (p : Lock → Bool) → p lock ≡ true → GoesOver p → is_intent lock.kind ≡ false → (old new : Table) → IsGranted old new lock
      → list_any p new.granted ≡ true
  has_one p mine over plain old new is =
      subst (λ (t : Table). list_any p t.granted ≡ true) (sym is.lists)
      (split (is_covered old.granted lock)
      (λ covered. subst (λ b. list_any p (cond (b || is_intent lock.kind) old.granted (old.granted ++ lock ∷ [])) ≡ true) (sym covered)
      (any_covering p over lock mine old.granted covered))
      (λ free. subst (λ b. list_any p (cond (b || is_intent lock.kind) old.granted (old.granted ++ lock ∷ [])) ≡ true) (sym free)
      (subst (λ b. list_any p (cond b old.granted (old.granted ++ lock ∷ [])) ≡ true) (sym plain)
      (any_behind p old.granted (lock ∷ []) (ap (λ b. b || false) mine)))))

  pub granted_gap : (old new : Table) → IsGranted old new lock → locks_gap (kind_of lock) ≡ true
      → has_gap lock.txn lock.spot.index lock.spot.key new.granted ≡ true
  granted_gap old new is gap =
      has_one (is_gap_lock_at lock.txn lock.spot.index lock.spot.key) (both _ _ itself gap) (gap_over lock.txn lock.spot.index lock.spot.key)
      (no_intent (is_some lock.spot.key) lock.kind (inl gap)) old new is

  module _ (key : List ℕ) (at : lock.spot.key ≡ Some key) where
    at_key : is_lock_at lock.txn lock.spot.index (Some key) lock ≡ true
    at_key = subst (λ (s : Option (List ℕ)). is_lock_at lock.txn lock.spot.index s lock ≡ true) at itself

    pub granted_record : (old new : Table) → IsGranted old new lock → locks_record (kind_of lock) ≡ true
        → has_record lock.txn lock.spot.index key new.granted ≡ true
    granted_record old new is own =
        has_one (is_record_lock_at lock.txn lock.spot.index key) (both _ _ at_key own) (record_over lock.txn lock.spot.index key)
        (no_intent (is_some lock.spot.key) lock.kind (inr own)) old new is

    pub granted_alone : (old new : Table) → IsGranted old new lock → locks_record (kind_of lock) ≡ true → is_shared lock.mode ≡ false
        → has_alone lock.txn lock.spot.index key new.granted ≡ true
    granted_alone old new is own alone =
        has_one (λ held. is_record_lock_at lock.txn lock.spot.index key held && not (is_shared held.mode))
        (both _ _ (both _ _ at_key own) (ap not alone)) (alone_over lock.txn lock.spot.index key)
        (no_intent (is_some lock.spot.key) lock.kind (inr own)) old new is
