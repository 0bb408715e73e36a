-- A lock that is given back as soon as it is granted takes no older one along.
use Rattle.std.proofs.Common.{◌≡◌, ◌∙◌, ℕ, Bool, true, false, List, [], ◌∷◌, ◌++◌, inl, inr, refl, sym, ap, subst}
use Rattle.std.specs.Prelude.{◌==◌, ◌&&◌, ◌||◌, not, cond, Some, is_some}
use Rattle.std.specs.List.{list_any}
use Rattle.inno_types.specs.declared.lock.LockKind.{LockKind}
use Rattle.inno_types.specs.declared.lock.LockKind.TheVariants.{Rec, Gap, NextKey, Intent}
use Rattle.inno_types.specs.declared.lock.Mode.{Mode}
use Rattle.inno_types.specs.declared.lock.Mode.TheVariants.{S, X}
use Rattle.inno_types.specs.declared.lock.Spot.{Spot}
use Rattle.inno_types.specs.declared.lock.Lock.{Lock}
use Rattle.lock_rules.specs.Kinds.{is_intent, is_shared, locks_gap, locks_record, same_kind, same_mode}
use Rattle.lock_rules.specs.Spots.{same_spot}
use Rattle.lock_rules.specs.Conflicts.{covers, kind_at, kind_covers, kind_of, same_lock, same_reason}
use Rattle.lock_rules.proofs.Booleans.{first, second, both, or_cases, or_left, or_right, or_false-left, or_false-right, split, true_false}
use Rattle.lock_rules.proofs.Beside.{spot_same}
use Rattle.lock_table.specs.Queue.{serve, without_lock, is_covered}
use Rattle.lock_table.specs.View.{Table, IsGranted}
use Rattle.law_locks.specs.Guards.{is_lock_at, is_gap_lock_at, is_record_lock_at}
use Rattle.law_locks.proofs.Locks.{any_served}
use Rattle.law_locks.proofs.Guarding.{KeepsLocks}

kinds_same : (kind other : LockKind) → same_kind kind other ≡ true → kind ≡ other
kinds_same Rec Rec is = refl
kinds_same Rec Gap is = cc
kinds_same Rec NextKey is = cc
kinds_same Rec Intent is = cc
kinds_same Gap Rec is = cc
kinds_same Gap Gap is = refl
kinds_same Gap NextKey is = cc
kinds_same Gap Intent is = cc
kinds_same NextKey Rec is = cc
kinds_same NextKey Gap is = cc
kinds_same NextKey NextKey is = refl
kinds_same NextKey Intent is = cc
kinds_same Intent Rec is = cc
kinds_same Intent Gap is = cc
kinds_same Intent NextKey is = cc
kinds_same Intent Intent is = refl

covers_itself : (kind : LockKind) → is_intent kind ≡ false → kind_covers kind kind ≡ true
covers_itself Rec is = refl
covers_itself Gap is = refl
covers_itself NextKey is = refl
covers_itself Intent is = cc

modes_cover : (held asked : Mode) → same_mode held asked ≡ true → (is_shared asked || not (is_shared held)) ≡ true
modes_cover S asked is = or_left _ _ is
modes_cover X asked is = or_right (is_shared asked) _ refl

no_intent_of_gap : (kind : LockKind) → locks_gap kind ≡ true → is_intent kind ≡ false
no_intent_of_gap Rec is = refl
no_intent_of_gap Gap is = refl
no_intent_of_gap NextKey is = refl
no_intent_of_gap Intent is = cc

no_intent_of_record : (kind : LockKind) → locks_record kind ≡ true → is_intent kind ≡ false
no_intent_of_record Rec is = refl
no_intent_of_record Gap is = refl
no_intent_of_record NextKey is = refl
no_intent_of_record Intent is = cc

-- a lock covers its like
like_covers : (held lock : Lock) → same_lock held lock ≡ true → is_intent (kind_of held) ≡ false → covers held lock ≡ true
like_covers held lock is other =
    let front = first (held.txn == lock.txn && same_spot held.spot lock.spot && same_kind held.kind lock.kind && same_mode held.mode lock.mode)
    (same_reason held.reason lock.reason) is in
    let kinds = first (held.txn == lock.txn && same_spot held.spot lock.spot && same_kind held.kind lock.kind) (same_mode held.mode lock.mode) front in
    let places = first (held.txn == lock.txn && same_spot held.spot lock.spot) (same_kind held.kind lock.kind) kinds in
    let spots : held.spot ≡ lock.spot = spot_same held.spot lock.spot (second (held.txn == lock.txn) _ places) in
    let kind : held.kind ≡ lock.kind = kinds_same held.kind lock.kind (second (held.txn == lock.txn && same_spot held.spot lock.spot) _ kinds) in
    let one : kind_of held ≡ kind_of lock = ap (λ (s : Spot). kind_at (is_some s.key) held.kind) spots ∙ ap (λ k. kind_at (is_some lock.spot.key) k) kind in
    both _ _ (both _ _ places (ap (kind_covers (kind_of held)) (sym one) ∙ covers_itself (kind_of held) other))
    (modes_cover held.mode lock.mode (second (held.txn == lock.txn && same_spot held.spot lock.spot && same_kind held.kind lock.kind) _ front))

module _ (lock : Lock) where
  -- so where no lock covers it, none is like it
  older_stay : (p : Lock → Bool) → ((held : Lock) → p held ≡ true → is_intent (kind_of held) ≡ false) → (held : List Lock) → is_covered held lock ≡ false
      → list_any p held ≡ true → list_any p (without_lock lock held) ≡ true
  older_stay p kinds [] free has = has
  older_stay p kinds (w ∷ held) free has =
      elim (or_cases (p w) _ has) [
        | inl this ↦
            split (same_lock w lock)
            (λ like. absurd (true_false _ (like_covers w lock like (kinds w this)) (or_false-left (covers w lock) _ free)))
            (λ unlike. subst (λ b. list_any p (cond (not b) (w ∷ without_lock lock held) (without_lock lock held)) ≡ true) (sym unlike) (or_left _ _ this))
        | inr rest ↦
            let left = older_stay p kinds held (or_false-right (covers w lock) _ free) rest in
            elim (same_lock w lock) as (λ b. list_any p (cond (not b) (w ∷ without_lock lock held) (without_lock lock held)) ≡ true)
            [ true ↦ left | false ↦ or_right (p w) _ left ]
      ]

  front_stays : (p : Lock → Bool) (xs ys : List Lock) → list_any p (without_lock lock xs) ≡ true → list_any p (without_lock lock (xs ++ ys)) ≡ true
  front_stays p [] ys has = cc
  front_stays p (x ∷ xs) ys has =
      split (same_lock x lock)
      (λ like. subst (λ b. list_any p (cond (not b) (x ∷ without_lock lock (xs ++ ys)) (without_lock lock (xs ++ ys))) ≡ true) (sym like)
      (front_stays p xs ys (subst (λ b. list_any p (cond (not b) (x ∷ without_lock lock xs) (without_lock lock xs)) ≡ true) like has)))
      (λ unlike. subst (λ b. list_any p (cond (not b) (x ∷ without_lock lock (xs ++ ys)) (without_lock lock (xs ++ ys))) ≡ true) (sym unlike)
      (elim (or_cases (p x) _ (subst (λ b. list_any p (cond (not b) (x ∷ without_lock lock xs) (without_lock lock xs)) ≡ true) unlike has)) [
        | inl this ↦ or_left _ _ this
        | inr rest ↦ or_right (p x) _ (front_stays p xs ys rest)
      ]))

  module _ (old new : Table) (free : is_covered old.granted lock ≡ false) (is : IsGranted old new lock) where
    abbrev after : List Lock
    after = (serve (without_lock lock new.granted) [] new.waiting).granted

    stays : (p : Lock → Bool) → ((held : Lock) → p held ≡ true → is_intent (kind_of held) ≡ false) → list_any p old.granted ≡ true → list_any p after ≡ true
    stays p kinds has =
        any_served p (without_lock lock new.granted) [] new.waiting
        (subst (λ (t : Table). list_any p (without_lock lock t.granted) ≡ true) (sym is.lists)
        (subst (λ b. list_any p (without_lock lock (cond (b || is_intent lock.kind) old.granted (old.granted ++ lock ∷ []))) ≡ true) (sym free)
        (elim (is_intent lock.kind) as (λ b. list_any p (without_lock lock (cond b old.granted (old.granted ++ lock ∷ []))) ≡ true) [
          | true ↦ older_stay p kinds old.granted free has
          | false ↦ front_stays p old.granted (lock ∷ []) (older_stay p kinds old.granted free has)
        ])))

    pub given_back_at_once : (txn index : ℕ) → KeepsLocks txn index old.granted after
    given_back_at_once txn index = record {
      gaps = λ spot has. stays (is_gap_lock_at txn index spot)
          (λ held gap. no_intent_of_gap (kind_of held) (second (is_lock_at txn index spot held) _ gap)) has;
      records = λ key has. stays (is_record_lock_at txn index key)
          (λ held own. no_intent_of_record (kind_of held) (second (is_lock_at txn index (Some key) held) _ own)) has;
      alone = λ key has.
          stays (λ held. is_record_lock_at txn index key held && not (is_shared held.mode))
          (λ held own. no_intent_of_record (kind_of held)
          (second (is_lock_at txn index (Some key) held) _ (first (is_record_lock_at txn index key held) _ own))) has;
    }
