-- A lock that covers another one has all that it has; so what locks have stays where a lock that is covered is left out.
use Rattle.std.proofs.Common.{◌≡◌, ◌∙◌, Bool, true, false, cond, List, [], ◌∷◌, ◌++◌, inl, inr, refl, sym, ap, subst, append_assoc}
use Rattle.std.proofs.lemmas.Bool.{eqb-true}
use Rattle.std.proofs.lemmas.List.Folds.{list_any-append}
use Rattle.std.specs.Prelude.{ℕ, ◌==◌, ◌&&◌, ◌||◌, not, Option}
use Rattle.std.specs.List.{list_any, AllByRecursion}
use Rattle.inno_types.specs.declared.lock.LockKind.{LockKind}
use Rattle.inno_types.specs.declared.lock.LockKind.TheVariants.{Rec, Gap, NextKey, Intent}
use Rattle.inno_types.specs.declared.lock.Spot.{Spot}
use Rattle.inno_types.specs.declared.lock.Lock.{Lock}
use Rattle.lock_rules.specs.declared.rule.Rule.TheVariants.{RecordWent}
use Rattle.lock_rules.specs.Kinds.{is_shared, locks_gap, locks_record}
use Rattle.lock_rules.specs.Spots.{same_spot}
use Rattle.lock_rules.specs.Conflicts.{covers, kind_covers, kind_of}
use Rattle.lock_rules.specs.Rules.{number_of}
use Rattle.lock_rules.proofs.Booleans.{first, second, or_left, or_right, or_cases, true_false, split}
use Rattle.lock_rules.proofs.Beside.{spot_same}
use Rattle.lock_table.specs.Queue.{is_covered}
use Rattle.lock_table.specs.Records.{as_gap, becomes_gap, moved_on, uncovered}

pub covers_gap : (held asked : LockKind) → kind_covers held asked ≡ true → locks_gap asked ≡ true → locks_gap held ≡ true
covers_gap held Rec is gap = cc
covers_gap held Gap is gap = is
covers_gap held NextKey is gap = second (locks_record held) _ is
covers_gap held Intent is gap = cc

pub covers_record : (held asked : LockKind) → kind_covers held asked ≡ true → locks_record asked ≡ true → locks_record held ≡ true
covers_record held Rec is own = is
covers_record held Gap is own = cc
covers_record held NextKey is own = first (locks_record held) _ is
covers_record held Intent is own = cc

-- the lock that covers is on the same spot and of the same transaction, of a kind that covers the other's, and as strong
module _ (held lock : Lock) (is : covers held lock ≡ true) where
  front : (held.txn == lock.txn && same_spot held.spot lock.spot && kind_covers (kind_of held) (kind_of lock)) ≡ true
  front = first (held.txn == lock.txn && same_spot held.spot lock.spot && kind_covers (kind_of held) (kind_of lock)) _ is

  places : (held.txn == lock.txn && same_spot held.spot lock.spot) ≡ true
  places = first (held.txn == lock.txn && same_spot held.spot lock.spot) _ front

  pub one_txn : held.txn ≡ lock.txn
  one_txn = eqb-true held.txn lock.txn (first (held.txn == lock.txn) _ places)

  pub one_spot : held.spot ≡ lock.spot
  one_spot = spot_same held.spot lock.spot (second (held.txn == lock.txn) _ places)

  pub stronger_gap : locks_gap (kind_of lock) ≡ true → locks_gap (kind_of held) ≡ true
  stronger_gap = covers_gap (kind_of held) (kind_of lock) (second (held.txn == lock.txn && same_spot held.spot lock.spot) _ front)

  pub stronger_record : locks_record (kind_of lock) ≡ true → locks_record (kind_of held) ≡ true
  stronger_record = covers_record (kind_of held) (kind_of lock) (second (held.txn == lock.txn && same_spot held.spot lock.spot) _ front)

  pub stronger_mode : is_shared lock.mode ≡ false → is_shared held.mode ≡ false
  stronger_mode alone =
      elim (or_cases (is_shared lock.mode) _ (second (held.txn == lock.txn && same_spot held.spot lock.spot && kind_covers (kind_of held) (kind_of lock)) _ is)) [
        | inl shared ↦ absurd (true_false _ shared alone)
        | inr mine ↦ split (is_shared held.mode) (λ shared. absurd (true_false _ mine (ap not shared))) (λ not_shared. not_shared)
      ]

-- what a lock has, one that covers it has too
abbrev pub GoesOver : (Lock → Bool) → Type 0
GoesOver p = (held lock : Lock) → covers held lock ≡ true → p lock ≡ true → p held ≡ true

any_front : (p : Lock → Bool) (xs ys : List Lock) → list_any p xs ≡ true → list_any p (xs ++ ys) ≡ true
any_front p xs ys h = list_any-append p xs ys ∙ or_left _ _ h

any_behind : (p : Lock → Bool) (xs ys : List Lock) → list_any p ys ≡ true → list_any p (xs ++ ys) ≡ true
any_behind p xs ys h = list_any-append p xs ys ∙ or_right _ _ h

module _ (p : Lock → Bool) (over : GoesOver p) where
  pub any_covering : (lock : Lock) → p lock ≡ true → (held : List Lock) → is_covered held lock ≡ true → list_any p held ≡ true
  any_covering lock has [] is = cc
  any_covering lock has (w ∷ held) is =
      elim (or_cases (covers w lock) _ is) [ inl this ↦ or_left _ _ (over w lock this has) | inr rest ↦ or_right (p w) _ (any_covering lock has held rest) ]

  -- what one of the locks has, one of those has that stand then
  pub any_uncovered : (held ws : List Lock) → list_any p ws ≡ true → list_any p (held ++ uncovered held ws) ≡ true
  any_uncovered held [] has = cc
  any_uncovered held (w ∷ ws) has =
      split (is_covered held w)
      (λ covered. subst (λ b. list_any p (held ++ cond b (uncovered held ws) (w ∷ more)) ≡ true) (sym covered)
      (elim (or_cases (p w) _ has) [
        | inl this ↦ any_front p held (uncovered held ws) (any_covering w this held covered)
        | inr rest ↦ any_uncovered held ws rest
      ]))
      (λ free. subst (λ b. list_any p (held ++ cond b (uncovered held ws) (w ∷ more)) ≡ true) (sym free)
      (elim (or_cases (p w) _ has) [
        | inl this ↦ any_behind p held (w ∷ more) (or_left _ _ this)
        | inr rest ↦ subst (λ (ls : List Lock). list_any p ls ≡ true) (append_assoc held (w ∷ []) more) (any_uncovered (held ++ w ∷ []) ws rest)
      ])) where
        more : List Lock
        more = uncovered (held ++ w ∷ []) ws

-- ---- a record goes

module _ (by : Option ℕ) (gone next : Spot) where
  abbrev gap_of : Lock → Lock
  gap_of w = as_gap (number_of RecordWent) next w

  abbrev goes_on : List Lock → List Lock → Lock → Bool
  goes_on done ws w = becomes_gap by w && not (is_covered done (gap_of w) || is_covered ws (gap_of w))

  -- whichever way the first of the locks goes
  module _ (P : List Lock → Type 0) (done ws : List Lock) (w : Lock) where
    abbrev ways : Bool → List Lock
    ways b = cond b (cond (goes_on done ws w) (moved_on by gone next (done ++ gap_of w ∷ []) ws) (moved_on by gone next done ws)) (moved_on by gone next (done ++ w ∷ []) ws)

    pub stays_there : same_spot w.spot gone ≡ false → P (moved_on by gone next (done ++ w ∷ []) ws) → P (moved_on by gone next done (w ∷ ws))
    stays_there elsewhere stays = subst (λ b. P (ways b)) (sym elsewhere) stays

    pub any_way : P (moved_on by gone next (done ++ gap_of w ∷ []) ws) → P (moved_on by gone next done ws)
        → (same_spot w.spot gone ≡ false → P (moved_on by gone next (done ++ w ∷ []) ws)) → P (moved_on by gone next done (w ∷ ws))
    any_way changed left stays =
        split (same_spot w.spot gone)
        (λ here. subst (λ b. P (ways b)) (sym here)
        (elim (goes_on done ws w) as (λ b. P (cond b (moved_on by gone next (done ++ gap_of w ∷ []) ws) (moved_on by gone next done ws))) [ true ↦ changed | false ↦ left ]))
        (λ elsewhere. stays_there elsewhere (stays elsewhere))

  module _ (p : Lock → Bool) where
    pub any_done : (done ws : List Lock) → list_any p done ≡ true → list_any p (moved_on by gone next done ws) ≡ true
    any_done done [] has = has
    any_done done (w ∷ ws) has =
        any_way (λ ls. list_any p ls ≡ true) done ws w (any_done (done ++ gap_of w ∷ []) ws (any_front p done (gap_of w ∷ []) has)) (any_done done ws has)
        (λ _. any_done (done ++ w ∷ []) ws (any_front p done (w ∷ []) has))

    -- locks on other spots stay
    pub any_elsewhere : ((w : Lock) → p w ≡ true → same_spot w.spot gone ≡ false) → (done ws : List Lock) → list_any p ws ≡ true
        → list_any p (moved_on by gone next done ws) ≡ true
    any_elsewhere elsewhere done [] has = cc
    any_elsewhere elsewhere done (w ∷ ws) has =
        elim (or_cases (p w) _ has) [
          | inl this ↦ stays_there (λ ls. list_any p ls ≡ true) done ws w (elsewhere w this)
              (any_done (done ++ w ∷ []) ws (any_behind p done (w ∷ []) (or_left _ _ this)))
          | inr rest ↦ any_way (λ ls. list_any p ls ≡ true) done ws w (any_elsewhere elsewhere (done ++ gap_of w ∷ []) ws rest) (any_elsewhere elsewhere done ws rest)
              (λ _. any_elsewhere elsewhere (done ++ w ∷ []) ws rest)
        ]

  -- what a lock has that stays or becomes a gap lock, is had afterwards, also where another lock covers the gap lock
  module _ (R : Lock → Type 0) (q p : Lock → Bool) (apart : same_spot next gone ≡ false) (over : GoesOver p)
      (changes : (w : Lock) → R w → q w ≡ true → same_spot w.spot gone ≡ true → (becomes_gap by w ≡ true) × (p (gap_of w) ≡ true))
      (keeps : (w : Lock) → R w → q w ≡ true → same_spot w.spot gone ≡ false → p w ≡ true) where
    covering_stays : (done ws : List Lock) (gap : Lock) → gap.spot ≡ next → p gap ≡ true → is_covered ws gap ≡ true → list_any p (moved_on by gone next done ws) ≡ true
    covering_stays done ws gap at has is =
        any_of (moved_on by gone next done ws) (any_elsewhere (λ w. covers w gap)
        (λ w covered. ap (λ (s : Spot). same_spot s gone) (one_spot w gap covered ∙ at) ∙ apart) done ws is)
      where
        any_of : (ls : List Lock) → is_covered ls gap ≡ true → list_any p ls ≡ true
        any_of = any_covering p over gap has

    pub any_moved : (done ws : List Lock) → AllByRecursion R ws → list_any q ws ≡ true → list_any p (moved_on by gone next done ws) ≡ true
    any_moved done [] all has = cc
    any_moved done (w ∷ ws) all has =
        elim (or_cases (q w) _ has) [
          | inr rest ↦ any_way (λ ls. list_any p ls ≡ true) done ws w (any_moved (done ++ gap_of w ∷ []) ws all.1 rest) (any_moved done ws all.1 rest)
              (λ _. any_moved (done ++ w ∷ []) ws all.1 rest)
          | inl this ↦ split (same_spot w.spot gone)
              (λ here. at_gone here (changes w all.0 this here))
              (λ elsewhere. stays_there (λ ls. list_any p ls ≡ true) done ws w elsewhere
              (any_done p (done ++ w ∷ []) ws (any_behind p done (w ∷ []) (or_left _ _ (keeps w all.0 this elsewhere)))))
        ] where
          at_gone : same_spot w.spot gone ≡ true → (becomes_gap by w ≡ true) × (p (gap_of w) ≡ true) → list_any p (moved_on by gone next done (w ∷ ws)) ≡ true
          at_gone here is =
              subst (λ b. list_any p (cond b (cond (goes_on done ws w) (moved_on by gone next (done ++ gap_of w ∷ []) ws) (moved_on by gone next done ws))
              (moved_on by gone next (done ++ w ∷ []) ws)) ≡ true) (sym here)
              (split (is_covered done (gap_of w) || is_covered ws (gap_of w))
              (λ covered. subst (λ b. list_any p (cond b (moved_on by gone next (done ++ gap_of w ∷ []) ws) (moved_on by gone next done ws)) ≡ true)
              (sym (ap (λ b. becomes_gap by w && not b) covered ∙ ap (λ b. b && false) is.0))
              (elim (or_cases (is_covered done (gap_of w)) _ covered) [
                | inl before ↦ any_done p done ws (any_covering p over (gap_of w) is.1 done before)
                | inr behind ↦ covering_stays done ws (gap_of w) refl is.1 behind
              ]))
              (λ free. subst (λ b. list_any p (cond b (moved_on by gone next (done ++ gap_of w ∷ []) ws) (moved_on by gone next done ws)) ≡ true)
              (sym (ap (λ b. becomes_gap by w && not b) free ∙ ap (λ b. b && true) is.0))
              (any_done p (done ++ gap_of w ∷ []) ws (any_behind p done (gap_of w ∷ []) (or_left _ _ is.1)))))
