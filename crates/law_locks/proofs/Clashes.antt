-- Nobody else has locked a record that a transaction has alone.
use Rattle.std.proofs.Common.{◌≡◌, ◌≢◌, ◌∙◌, ℕ, Bool, true, false, List, [], ◌∷◌, inl, inr, refl, sym, ap}
use Rattle.std.proofs.lemmas.Bool.{eqb-true}
use Rattle.std.specs.Prelude.{◌==◌, ◌&&◌, ◌||◌, not, Some, is_some}
use Rattle.std.specs.List.{list_any, AllByRecursion}
use Rattle.inno_types.specs.declared.lock.LockKind.{LockKind}
use Rattle.inno_types.specs.declared.lock.LockKind.TheVariants.{Rec, Gap, NextKey, Intent}
use Rattle.inno_types.specs.declared.lock.Mode.{Mode}
use Rattle.inno_types.specs.declared.lock.Spot.{Spot}
use Rattle.inno_types.specs.declared.lock.Lock.{Lock}
use Rattle.lock_rules.specs.Kinds.{is_intent, is_shared, locks_record}
use Rattle.lock_rules.specs.Spots.{same_spot}
use Rattle.lock_rules.specs.Conflicts.{conflicts, kind_of, kinds_conflict}
use Rattle.lock_rules.proofs.Booleans.{first, second, both, or_cases, true_false, split}
use Rattle.lock_rules.proofs.Beside.{intent_of, spot_refl}
use Rattle.lock_table.specs.Queue.{AreApart, stands_beside}
use Rattle.law_locks.specs.Guards.{is_lock_at, is_record_lock_at, has_record, has_alone}
use Rattle.law_locks.proofs.Locks.{lock_at}

record_kinds : (held : LockKind) (mode : Mode) (asked : LockKind) (other : Mode) → locks_record held ≡ true → locks_record asked ≡ true
    → is_shared mode ≡ false → kinds_conflict held mode asked other ≡ true
record_kinds held mode Rec other record_is asked_is alone = both _ _ record_is (ap (λ b. not (b && is_shared other)) alone)
record_kinds held mode NextKey other record_is asked_is alone = both _ _ record_is (ap (λ b. not (b && is_shared other)) alone)
record_kinds held mode Gap other record_is asked_is alone = cc
record_kinds held mode Intent other record_is asked_is alone = cc

no_intent : (kind : LockKind) → locks_record kind ≡ true → is_intent kind ≡ false
no_intent Rec is = refl
no_intent Gap is = refl
no_intent NextKey is = refl
no_intent Intent is = cc

module _ (txn other index : ℕ) (key : List ℕ) (differ : txn ≢ other) where
  abbrev is_alone : Lock → Bool
  is_alone lock = is_record_lock_at other index key lock && not (is_shared lock.mode)

  clash : (held lock : Lock) → is_alone held ≡ true → is_record_lock_at txn index key lock ≡ true → stands_beside held lock ≡ true → ⊥
  clash held lock alone mine beside =
      let at = lock_at other index (Some key) held
      (first (is_lock_at other index (Some key) held) _ (first (is_record_lock_at other index key held) _ alone)) in
      let here = lock_at txn index (Some key) lock (first (is_lock_at txn index (Some key) lock) _ mine) in
      let spots : held.spot ≡ lock.spot = λ i. record { index = ((at.here ∙ sym here.here) i); key = ((at.key ∙ sym here.key) i) } in
      let others : not (held.txn == lock.txn) ≡ true = split (held.txn == lock.txn)
      (λ same. absurd (differ (sym here.own ∙ sym (eqb-true held.txn lock.txn same) ∙ at.own))) (λ not_same. ap not not_same) in
      let shared : is_shared held.mode ≡ false = split (is_shared held.mode)
      (λ is. absurd (true_false _ (second (is_record_lock_at other index key held) _ alone) (ap not is))) (λ is_not. is_not) in
      let conflict : conflicts held lock ≡ true =
      both _ _ (both _ _ others (ap (λ (s : Spot). same_spot s lock.spot) spots ∙ spot_refl lock.spot))
      (record_kinds (kind_of held) held.mode (kind_of lock) lock.mode
      (second (is_lock_at other index (Some key) held) _ (first (is_record_lock_at other index key held) _ alone))
      (second (is_lock_at txn index (Some key) lock) _ mine) shared) in
      let kind : is_intent lock.kind ≡ false = sym (intent_of (is_some lock.spot.key) lock.kind) ∙ no_intent (kind_of lock)
      (second (is_lock_at txn index (Some key) lock) _ mine) in
      true_false _ beside (ap (λ b. b || not (conflicts held lock)) kind ∙ ap not conflict)

  clash_one : (held : Lock) (locks : List Lock) → is_alone held ≡ true → has_record txn index key locks ≡ true
      → AllByRecursion (λ lock. stands_beside held lock ≡ true) locks → ⊥
  clash_one held [] alone has beside = cc
  clash_one held (lock ∷ locks) alone has beside =
      elim (or_cases (is_record_lock_at txn index key lock) _ has)
      [ inl this ↦ clash held lock alone this beside.0 | inr rest ↦ clash_one held locks alone rest beside.1 ]

  clash_all : (some locks : List Lock) → list_any is_alone some ≡ true → has_record txn index key locks ≡ true
      → AllByRecursion (λ held. AllByRecursion (λ lock. stands_beside held lock ≡ true) locks) some → ⊥
  clash_all [] locks alone has beside = cc
  clash_all (held ∷ some) locks alone has beside =
      elim (or_cases (is_alone held) _ alone) [ inl this ↦ clash_one held locks this has beside.0 | inr rest ↦ clash_all some locks rest has beside.1 ]

  pub nobody_beside : (granted : List Lock) → AreApart granted → has_alone other index key granted ≡ true → has_record txn index key granted ≡ true → ⊥
  nobody_beside granted apart alone has = clash_all granted granted alone has apart
