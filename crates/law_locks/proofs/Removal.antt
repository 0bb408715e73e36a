-- A record that goes closes cycles through those alone who wait to insert before the next one.
use Rattle.std.specs.Prelude.{◌≡◌, ℕ, ◌==◌, ◌&&◌, not, Bool, true, false, cond, Option, is_some, List, [], ◌∷◌, ◌++◌, filter}
use Rattle.std.proofs.Common.{◌⊎◌, inl, inr, refl, sym, ap, subst}
use Rattle.std.proofs.lemmas.Bool.{cases_eq}
use Rattle.inno_types.specs.declared.lock.LockKind.{LockKind}
use Rattle.inno_types.specs.declared.lock.LockKind.TheVariants.{Rec, Gap, NextKey, Intent}
use Rattle.inno_types.specs.declared.lock.Mode.{Mode}
use Rattle.inno_types.specs.declared.lock.Spot.{Spot}
use Rattle.inno_types.specs.declared.lock.Edge.{Edge}
use Rattle.inno_types.specs.declared.lock.Lock.{Lock}
use Rattle.lock_rules.specs.Kinds.{is_intent}
use Rattle.lock_rules.specs.Spots.{same_spot}
use Rattle.lock_rules.specs.Conflicts.{conflicts, kind_at, kinds_conflict}
use Rattle.lock_rules.specs.Rules.{number_of}
use Rattle.lock_rules.specs.declared.rule.Rule.TheVariants.{RecordWent}
use Rattle.lock_rules.proofs.Booleans.{first, second, both, true_false}
use Rattle.lock_rules.proofs.Beside.{spot_same, spot_refl}
use Rattle.lock_table.specs.Queue.{serve, is_waiting, AreSingle}
use Rattle.lock_table.specs.Records.{moved, left_by, uncovered, elsewhere as requests_elsewhere, becomes_gap, as_gap, after_removal}
use Rattle.lock_table.proofs.Soundness.{all_moved, single_filter}
use Rattle.deadlock.specs.Cycles.{waiters, IsCycle}
use Rattle.law_locks.specs.Waits.{inserters, Meets}
use Rattle.law_locks.proofs.Calls.{uncovered_in}
use Rattle.law_locks.proofs.Members.{IsIn, all_in, in_all, in_cases, in_map, filter_in, contains_from_in}
use Rattle.law_locks.proofs.Parts.{IsPart, part_of_part, filtered_part, served_part, served_locks}
use Rattle.law_locks.proofs.Edges.{elsewhere}

module _ (by : Option ℕ) (gone next : Spot) where
  -- the lock is a gap lock on the next spot
  abbrev IsGap : Lock → Type 0
  IsGap lock = (w : Lock) × (as_gap (number_of RecordWent) next w ≡ lock)

  moved_from : (locks : List Lock) (lock : Lock) → IsIn (moved by gone next locks) lock → IsIn locks lock ⊎ IsGap lock
  moved_from locks lock there =
      all_in (λ l. IsIn locks l ⊎ IsGap l) (moved by gone next locks) lock
      (all_moved (λ l. IsIn locks l ⊎ IsGap l) by gone next (λ w. inr (w, refl)) locks (in_all (λ l. IsIn locks l ⊎ IsGap l) locks (λ l is. inl is))) there

  left_from : (queue : List Lock) (lock : Lock) → IsIn (left_by by gone next queue) lock → IsGap lock
  left_from [] lock there = absurd there
  left_from (w ∷ queue) lock there = go (same_spot w.spot gone && becomes_gap by w) (left_from queue lock) there where
    go : (b : Bool) → (IsIn (left_by by gone next queue) lock → IsGap lock)
        → IsIn (cond b (as_gap (number_of RecordWent) next w ∷ left_by by gone next queue) (left_by by gone next queue)) lock → IsGap lock
    go true rest (inl here) = (w, here)
    go true rest (inr behind) = rest behind
    go false rest behind = rest behind

  -- what waits for a gap lock is an insert intention on its spot
  gap_blocks : (b : Bool) (kind : LockKind) (mode other : Mode) → kinds_conflict Gap mode (kind_at b kind) other ≡ true → is_intent kind ≡ true
  gap_blocks b Rec mode other blocks = cc
  gap_blocks b Gap mode other blocks = cc
  gap_blocks true NextKey mode other blocks = cc
  gap_blocks false NextKey mode other blocks = cc
  gap_blocks b Intent mode other blocks = refl

  is_inserter : (lock asked : Lock) → IsGap lock → conflicts lock asked ≡ true → (is_intent asked.kind && same_spot asked.spot next) ≡ true
  is_inserter lock asked (w, is) blocks =
      let gap : conflicts (as_gap (number_of RecordWent) next w) asked ≡ true = subst (λ (l : Lock). conflicts l asked ≡ true) (sym is) blocks in
      let spots : next ≡ asked.spot = spot_same next asked.spot
      (second (not (w.txn == asked.txn)) _ (first (not (w.txn == asked.txn) && same_spot next asked.spot) _ gap)) in
      both _ _
      (gap_blocks (is_some asked.spot.key) asked.kind w.mode asked.mode (second (not (w.txn == asked.txn) && same_spot next asked.spot) _ gap))
      (subst (λ (s : Spot). same_spot s next ≡ true) spots (spot_refl next))

  -- one of these is among those, or none of them is
  one_of_both : (txns others : List ℕ) → ((txn : ℕ) × IsIn txns txn × IsIn others txn) ⊎ ((txn : ℕ) → IsIn txns txn → IsIn others txn → ⊥)
  one_of_both [] others = inr (λ txn none is. none)
  one_of_both (t ∷ txns) others = elim (listed others) [
    | inl there ↦ inl (t, inl refl, there)
    | inr not_there ↦ elim (one_of_both txns others) [
      | inl found ↦ inl (found.0, inr found.1, found.2)
      | inr none ↦ inr (λ txn is other. elim is [ inl here ↦ not_there (subst (IsIn others) (sym here) other) | inr rest ↦ none txn rest other ])
    ]
  ] where
    listed : (xs : List ℕ) → IsIn xs t ⊎ (IsIn xs t → ⊥)
    listed [] = inr (λ none. none)
    listed (x ∷ xs) = elim (cases_eq x t) [
      | inl same ↦ inl (inl same)
      | inr apart ↦ elim (listed xs) [ inl rest ↦ inl (inr rest) | inr none ↦ inr (λ is. elim is [ inl here ↦ apart here | inr rest ↦ none rest ]) ]
    ]

  module _ (granted waiting : List Lock) (single : AreSingle waiting) where
    abbrev held : List Lock
    held = moved by gone next granted ++ uncovered (moved by gone next granted) (left_by by gone next waiting)

    abbrev left : List Lock
    left = requests_elsewhere gone waiting

    part : IsPart (serve held [] left).waiting waiting
    part = part_of_part _ left waiting (served_part held [] left) (filtered_part (λ asked. not (same_spot asked.spot gone)) waiting)

    -- a lock that stands in the way of one who waits is an old one, or a gap lock on the next spot
    lock_from : (lock : Lock) → IsIn (serve held [] left).granted lock → is_waiting lock.txn (serve held [] left).waiting ≡ true
        → IsIn granted lock ⊎ IsGap lock
    lock_from lock there waits = elim (served_locks held [] left (single_filter (λ asked. not (same_spot asked.spot gone)) waiting single) lock there) [
      | inr done ↦ absurd (true_false _ waits done)
      | inl before ↦ elim (in_cases (moved by gone next granted) (uncovered (moved by gone next granted) (left_by by gone next waiting)) lock before) [
        | inl one ↦ moved_from granted lock one
        | inr one ↦ inr (left_from waiting lock (uncovered_in (moved by gone next granted) (left_by by gone next waiting) lock one))
      ]
    ]

    pub removal_closes : (cycle : List Edge)
        → IsCycle (after_removal by gone next granted waiting).granted (after_removal by gone next granted waiting).waiting cycle
        → IsCycle granted waiting cycle ⊎ Meets (inserters next waiting) cycle
    removal_closes cycle is =
        elim (one_of_both (inserters next waiting) (waiters cycle)) [
          | inl found ↦ inr (record {
            txn = found.0;
            listed = contains_from_in (inserters next waiting) found.0 found.1;
            waits = contains_from_in
                (waiters cycle) found.0 found.2;
          })
          | inr none ↦ inl
              (elsewhere (serve held [] left).granted (serve held [] left).waiting cycle is granted waiting single
              (λ e there wait holder. record {
                asked = wait.asked;
                there = part.there wait.asked wait.there;
                own = wait.own;
                is = wait.is;
                blocks = wait.blocks;
                from = elim wait.from [
                  | inr order ↦ inr (part.order e.lock wait.asked order)
                  | inl held_now ↦
                      elim (lock_from e.lock held_now (subst (λ t. is_waiting t (serve held [] left).waiting ≡ true)
                      (sym (ap (λ (f : Edge). f.holder) wait.is)) holder)) [
                        | inl before ↦ inl before
                        | inr gap ↦ absurd (none e.waiter
                            (subst (IsIn (inserters next waiting)) wait.own
                            (in_map (λ (l : Lock). l.txn) (filter (λ (l : Lock). is_intent l.kind && same_spot l.spot next) waiting) wait.asked
                            (filter_in (λ (l : Lock). is_intent l.kind && same_spot l.spot next) waiting wait.asked (part.there wait.asked wait.there)
                            (is_inserter e.lock wait.asked gap wait.blocks))))
                            (in_map (λ (f : Edge). f.waiter) cycle e there))
                      ]
                ];
              }))
        ]
