-- Which locks are in the lists when records appear and go, and when locks are granted and given back.
use Rattle.std.proofs.Common.{◌≡◌, ◌≢◌, ◌∙◌, ℕ, Bool, true, false, List, [], ◌∷◌, ◌++◌, ◌⊎◌, inl, inr, refl, sym, ap, subst}
use Rattle.std.proofs.lemmas.Bool.{eq-eqb, eqb-true}
use Rattle.std.proofs.lemmas.List.Folds.{list_any-append}
use Rattle.std.specs.Prelude.{◌==◌, ◌&&◌, ◌||◌, not, cond, filter, Option, None, Some, is_some}
use Rattle.std.specs.List.{list_any, AllByRecursion}
use Rattle.inno_types.specs.declared.lock.LockKind.{LockKind}
use Rattle.inno_types.specs.declared.lock.LockKind.TheVariants.{Rec, Gap, NextKey, Intent}
use Rattle.inno_types.specs.declared.lock.Level.{Level}
use Rattle.inno_types.specs.declared.lock.Level.TheVariants.{ReadUncommitted, ReadCommitted, RepeatableRead, Serializable}
use Rattle.inno_types.specs.declared.lock.Spot.{Spot}
use Rattle.inno_types.specs.declared.lock.Lock.{Lock}
use Rattle.lock_rules.specs.declared.rule.Rule.{Rule}
use Rattle.lock_rules.specs.declared.rule.Rule.TheVariants.{UniqueFound, UniqueMarked, UniqueAbsent, RangeRecord, PastRange, ClusteredOfEntry, ToInsert, Inserted, DuplicateCheck, Changed, LowerSearch, RecordWent, CopiedOnInsert}
use Rattle.lock_rules.specs.Kinds.{locks_gap, locks_record, is_intent, is_shared, is_upper, same_kind, same_mode, same_level}
use Rattle.lock_rules.specs.Spots.{same_key, same_spot}
use Rattle.lock_rules.specs.Conflicts.{conflicts, kind_at, kind_of, kinds_conflict}
use Rattle.lock_rules.specs.Rules.{FitsItsRule, gives_some, is_case_of, is_for, number_of, rule_kind, rule_mode, rule_of}
use Rattle.lock_rules.proofs.Booleans.{and_false, first, second, both, or_left, or_right, or_cases, true_false, split}
use Rattle.lock_rules.proofs.Beside.{key_refl, key_same, spot_refl}
use Rattle.lock_table.specs.Queue.{serve, is_blocked}
use Rattle.lock_table.specs.Records.{is_undone, becomes_gap, as_gap, moved, left_by, elsewhere, uncovered, own_copies, copies, after_removal}
use Rattle.lock_table.specs.Coverage.{MayInsert}
use Rattle.lock_table.proofs.Stronger.{GoesOver, one_txn, one_spot, stronger_gap, stronger_record, stronger_mode, any_uncovered, any_elsewhere, any_moved}
use Rattle.law_locks.specs.Guards.{is_lock_at, is_gap_lock_at, is_record_lock_at, has_gap}

-- ---- some lock of a list

pub any_front : (p : Lock → Bool) (xs ys : List Lock) → list_any p xs ≡ true → list_any p (xs ++ ys) ≡ true
any_front p xs ys h = list_any-append p xs ys ∙ or_left _ _ h

pub any_behind : (p : Lock → Bool) (xs ys : List Lock) → list_any p ys ≡ true → list_any p (xs ++ ys) ≡ true
any_behind p xs ys h = list_any-append p xs ys ∙ or_right _ _ h

-- to serve requests takes no granted lock away
pub any_served : (p : Lock → Bool) (held earlier queue : List Lock) → list_any p held ≡ true → list_any p (serve held earlier queue).granted ≡ true
any_served p held earlier [] h = h
any_served p held earlier (asked ∷ queue) h =
    elim (is_blocked held earlier asked) as (λ d. list_any p
    (cond d (serve held (earlier ++ asked ∷ []) queue) (serve (held ++ asked ∷ []) earlier queue)).granted ≡ true) [
      | true ↦ any_served p held (earlier ++ asked ∷ []) queue h
      | false ↦ any_served p (held ++ asked ∷ []) earlier queue (any_front p held (asked ∷ []) h)
    ]

-- nor does a test that all of these locks pass
pub any_kept : (p test : Lock → Bool) → ((lock : Lock) → p lock ≡ true → test lock ≡ true) → (xs : List Lock) → list_any p xs ≡ true
    → list_any p (filter test xs) ≡ true
any_kept p test passes [] h = h
any_kept p test passes (x ∷ xs) h =
    elim (or_cases (p x) _ h) [
      | inl this ↦ subst (λ b. list_any p (cond b (x ∷ filter test xs) (filter test xs)) ≡ true) (sym (passes x this)) (or_left _ _ this)
      | inr rest ↦
          let left = any_kept p test passes xs rest in
          elim (test x) as (λ b. list_any p (cond b (x ∷ filter test xs) (filter test xs)) ≡ true) [ true ↦ or_right (p x) _ left | false ↦ left ]
    ]

pub any_other : (p q : Lock → Bool) → ((lock : Lock) → p lock ≡ true → q lock ≡ true) → (xs : List Lock) → list_any p xs ≡ true → list_any q xs ≡ true
any_other p q other [] h = h
any_other p q other (x ∷ xs) h = elim (or_cases (p x) _ h) [ inl this ↦ or_left _ _ (other x this) | inr rest ↦ or_right (q x) _ (any_other p q other xs rest) ]

-- ---- where a lock is

pub record IsLockAt (txn index : ℕ) (spot : Option (List ℕ)) (lock : Lock) : Type 0 where
  pub own : lock.txn ≡ txn
  pub here : lock.spot.index ≡ index
  pub key : lock.spot.key ≡ spot

module _ (txn index : ℕ) (spot : Option (List ℕ)) (lock : Lock) where
  pub lock_at : is_lock_at txn index spot lock ≡ true → IsLockAt txn index spot lock
  lock_at h = record {
    own = eqb-true lock.txn txn (first (lock.txn == txn) _ (first (lock.txn == txn && lock.spot.index == index) _ h));
    here = eqb-true lock.spot.index index (second (lock.txn == txn) _ (first (lock.txn == txn && lock.spot.index == index) _ h));
    key = key_same lock.spot.key spot (second (lock.txn == txn && lock.spot.index == index) _ h);
  }

  pub at_lock : IsLockAt txn index spot lock → is_lock_at txn index spot lock ≡ true
  at_lock at = both _ _ (both _ _ (eq-eqb lock.txn txn at.own) (eq-eqb lock.spot.index index at.here)) (ap (λ k. same_key k spot) at.key ∙ key_refl spot)

-- a lock that covers another one has what the other has
module _ (txn index : ℕ) (spot : Option (List ℕ)) where
  pub lock_over : GoesOver (is_lock_at txn index spot)
  lock_over held lock is has =
      let at = lock_at txn index spot lock has in
      let one = one_spot held lock is in
      at_lock txn index spot held
      (record { own = one_txn held lock is ∙ at.own; here = ap (λ (s : Spot). s.index) one ∙ at.here; key = ap (λ (s : Spot). s.key) one ∙ at.key })

  pub gap_over : GoesOver (is_gap_lock_at txn index spot)
  gap_over held lock is has = both _ _ (lock_over held lock is (first (is_lock_at txn index spot lock) _ has))
      (stronger_gap held lock is (second (is_lock_at txn index spot lock) _ has))

module _ (txn index : ℕ) (key : List ℕ) where
  pub record_over : GoesOver (is_record_lock_at txn index key)
  record_over held lock is has = both _ _ (lock_over txn index (Some key) held lock is (first (is_lock_at txn index (Some key) lock) _ has))
      (stronger_record held lock is (second (is_lock_at txn index (Some key) lock) _ has))

  pub alone_over : GoesOver (λ lock. is_record_lock_at txn index key lock && not (is_shared lock.mode))
  alone_over held lock is has = both _ _ (record_over held lock is (first (is_record_lock_at txn index key lock) _ has))
      (ap not (stronger_mode held lock is (not_shared (is_shared lock.mode) (second (is_record_lock_at txn index key lock) _ has))))
    where
      not_shared : (b : Bool) → not b ≡ true → b ≡ false
      not_shared true h = cc
      not_shared false h = refl

gap_kind : (b : Bool) (kind : LockKind) → locks_gap (kind_at b kind) ≡ locks_gap kind
gap_kind b Rec = refl
gap_kind b Gap = refl
gap_kind true NextKey = refl
gap_kind false NextKey = refl
gap_kind b Intent = refl

spot_is : (spot other : Spot) → spot.index ≡ other.index → spot.key ≡ other.key → spot ≡ other
spot_is spot other index key = λ i. record { index = (index i); key = (key i) }

-- ---- a record is inserted

module _ (inserter : ℕ) (next : Spot) (intention : Lock) where
  blocks : (txn : ℕ) → txn ≢ inserter → intention.txn ≡ inserter → intention.kind ≡ Intent → intention.spot ≡ next → (lock : Lock)
      → is_gap_lock_at txn next.index next.key lock ≡ true → conflicts lock intention ≡ true
  blocks txn differ own kind spot lock is =
      let at = lock_at txn next.index next.key lock (first (is_lock_at txn next.index next.key lock) _ is) in
      let here : lock.spot ≡ next = spot_is lock.spot next at.here at.key in
      both _ _ (
      both _ _ (
      split (lock.txn == intention.txn) (λ same. absurd (differ (sym at.own ∙ eqb-true lock.txn intention.txn same ∙ own))) (λ not_same. ap not not_same))
      (ap (λ (s : Spot). same_spot s intention.spot) (here ∙ sym spot) ∙ spot_refl intention.spot))
      (ap (λ k. kinds_conflict (kind_of lock) lock.mode (kind_at (is_some intention.spot.key) k) intention.mode) kind ∙ second
      (is_lock_at txn next.index next.key lock) _ is)

  -- whoever has the gap of the next spot is the one who may insert before it
  pub only_inserter : (txn : ℕ) (locks : List Lock) → txn ≢ inserter → MayInsert inserter next locks intention
      → has_gap txn next.index next.key locks ≡ true → ⊥
  only_inserter txn locks differ may has =
      true_false _ (any_other (is_gap_lock_at txn next.index next.key) (λ held. conflicts held intention) (blocks txn differ may.own may.kind may.spot) locks
      has) may.free

has_own : (txn : ℕ) (new next : Spot) (locks : List Lock) → has_gap txn next.index next.key locks ≡ true
    → has_gap txn new.index new.key (own_copies txn new next locks) ≡ true
has_own txn new next [] has = has
has_own txn new next (lock ∷ locks) has =
    elim (or_cases (is_gap_lock_at txn next.index next.key lock) _ has) [
      | inl this ↦
          let at = lock_at txn next.index next.key lock (first (is_lock_at txn next.index next.key lock) _ this) in
          let copied : (lock.txn == txn && same_spot lock.spot next && locks_gap lock.kind) ≡ true =
          both _ _ (both _ _ (eq-eqb lock.txn txn at.own) (ap (λ (s : Spot). same_spot s next) (spot_is lock.spot next at.here at.key) ∙ spot_refl next))
          (sym (gap_kind (is_some lock.spot.key) lock.kind) ∙ second (is_lock_at txn next.index next.key lock) _ this) in
          subst (λ b. list_any (is_gap_lock_at txn new.index new.key)
          (cond b (as_gap (number_of CopiedOnInsert) new lock ∷ own_copies txn new next locks) (own_copies txn new next locks)) ≡ true)
          (sym copied)
          (or_left _ _ (both _ _ (at_lock txn new.index new.key (as_gap (number_of CopiedOnInsert) new lock)
          (record { own = at.own; here = refl; key = refl })) refl))
      | inr rest ↦
          let more = has_own txn new next locks rest in
          elim (lock.txn == txn && same_spot lock.spot next && locks_gap lock.kind) as
          (λ b. list_any (is_gap_lock_at txn new.index new.key)
          (cond b (as_gap (number_of CopiedOnInsert) new lock ∷ own_copies txn new next locks) (own_copies txn new next locks)) ≡ true) [
            | true ↦ or_right _ _ more
            | false ↦ more
          ]
    ]

-- and has it on the new record too
pub has_copy : (txn : ℕ) (new next : Spot) (locks : List Lock) → has_gap txn next.index next.key locks ≡ true
    → has_gap txn new.index new.key (locks ++ copies txn new next locks) ≡ true
has_copy txn new next locks has =
    any_uncovered (is_gap_lock_at txn new.index new.key) (gap_over txn new.index new.key) locks (own_copies txn new next locks) (has_own txn new next locks has)

-- ---- a record goes

pick : (b : Bool) (named rule : Rule) (rest : Option Rule) → cond b (Some named) rest ≡ Some rule → ((b ≡ true) × (named ≡ rule)) ⊎ (rest ≡ Some rule)
pick true named rule rest e = inl (refl, let same : named ≡ rule = cc in same)
pick false named rule rest e = inr e

-- the number tells the rule
number_is : (n : ℕ) (rule : Rule) → rule_of n ≡ Some rule → n ≡ number_of rule
number_is n rule e =
    one 1 UniqueFound _ e refl
    (λ e. one 2 UniqueMarked _ e refl (λ e. one 3 UniqueAbsent _ e refl (λ e. one 4 RangeRecord _ e refl (λ e. one 5 PastRange _ e refl (λ e.
    one 6 ClusteredOfEntry _ e refl
    (λ e. one 7 ToInsert _ e refl (λ e. one 8 Inserted _ e refl (λ e. one 9 DuplicateCheck _ e refl (λ e. one 10 Changed _ e refl (λ e.
    one 11 LowerSearch _ e refl (λ e. one 12 RecordWent _ e refl (λ e. one 13 CopiedOnInsert None e refl (λ e. cc)))))))))))))
  where
    one : (k : ℕ) (named : Rule) (rest : Option Rule) → cond (n == k) (Some named) rest ≡ Some rule → k ≡ number_of named
        → (rest ≡ Some rule → n ≡ number_of rule) → n ≡ number_of rule
    one k named rest e is others = elim (pick (n == k) named rule rest e) [ inl here ↦ eqb-true n k here.0 ∙ is ∙ ap number_of here.1 | inr more ↦ others more ]

level_same : (a b : Level) → same_level a b ≡ true → a ≡ b
level_same ReadUncommitted ReadUncommitted h = refl
level_same ReadCommitted ReadCommitted h = refl
level_same RepeatableRead RepeatableRead h = refl
level_same Serializable Serializable h = refl
level_same a b h = cc

gap_rule : (kind rule : LockKind) → same_kind kind rule ≡ true → locks_gap kind ≡ true → locks_gap rule ≡ true
gap_rule Rec rule same gap = cc
gap_rule Gap rule same gap = first (locks_gap rule) _ same
gap_rule NextKey rule same gap = second (locks_record rule) _ same
gap_rule Intent rule same gap = cc

not_intent : (kind : LockKind) → locks_gap kind ≡ true → not (is_intent kind) ≡ true
not_intent Rec gap = refl
not_intent Gap gap = refl
not_intent NextKey gap = refl
not_intent Intent gap = cc

module _ (by : Option ℕ) (lock : Lock) where
  -- the tests on the lock's rule
  abbrev is_left : ℕ → Bool
  is_left rule = is_upper lock.reason.level || rule == number_of DuplicateCheck || rule == number_of RecordWent || rule == number_of CopiedOnInsert

  abbrev is_of_change : Option ℕ → ℕ → Bool
  is_of_change None rule = false
  is_of_change (Some txn) rule = lock.txn == txn && (rule == number_of Inserted || rule == number_of Changed)

  upper_left : (rule : ℕ) → ((o : Option ℕ) → not (is_of_change o rule) ≡ true) → is_upper lock.reason.level ≡ true
      → (not (is_of_change by rule) && is_left rule) ≡ true
  upper_left rule no_change upper = both _ _ (no_change by) (or_left _ _ (or_left _ _ (or_left _ _ upper)))

  unchanged : (rule : ℕ) → (rule == number_of Inserted || rule == number_of Changed) ≡ false → (o : Option ℕ) → not (is_of_change o rule) ≡ true
  unchanged rule neither None = refl
  unchanged rule neither (Some txn) = ap (λ b. not (lock.txn == txn && b)) neither ∙ ap not (and_false (lock.txn == txn))

  by_rule : (rule : Rule) → locks_gap (rule_kind rule) ≡ true → is_for rule lock.reason.level ≡ true
      → (not (is_of_change by (number_of rule)) && is_left (number_of rule)) ≡ true
  by_rule UniqueMarked gap upper = upper_left 2 (unchanged 2 refl) upper
  by_rule UniqueAbsent gap upper = upper_left 3 (unchanged 3 refl) upper
  by_rule RangeRecord gap upper = upper_left 4 (unchanged 4 refl) upper
  by_rule PastRange gap upper = upper_left 5 (unchanged 5 refl) upper
  by_rule RecordWent gap upper = both _ _ (unchanged 12 refl by) (or_left _ _ (or_right (is_upper lock.reason.level || false) true refl))
  by_rule CopiedOnInsert gap upper = both _ _ (unchanged 13 refl by) (or_right (is_upper lock.reason.level || false || false) true refl)
  by_rule rule gap upper = (cc)

  undone_is : (o : Option ℕ) → is_undone o lock ≡ is_of_change o lock.reason.rule
  undone_is None = refl
  undone_is (Some txn) = refl

  -- A lock of a gap by any rule becomes one of the next gap. The rollback of its own transaction spares it too: what it
  -- takes are locks of records.
  pub gap_outlives : FitsItsRule lock → locks_gap (kind_of lock) ≡ true → becomes_gap by lock ≡ true
  gap_outlives fit gap = of_rule (rule_of fit.0.rule) refl fit.1
    where
      kind : locks_gap lock.kind ≡ true
      kind = sym (gap_kind (is_some lock.spot.key) lock.kind) ∙ gap

      of_rule : (o : Option Rule) → rule_of fit.0.rule ≡ o → gives_some o lock fit.0 ≡ true → becomes_gap by lock ≡ true
      of_rule None is given = cc
      of_rule (Some rule) is given =
          let c = fit.0 in
          let reason =
          second (is_for rule c.level && is_case_of rule c && same_spot lock.spot c.spot && same_kind lock.kind (rule_kind rule) && same_mode lock.mode
          (rule_mode rule c.mode)) _ given in
          let front = first (is_for rule c.level && is_case_of rule c && same_spot lock.spot c.spot && same_kind lock.kind (rule_kind rule)) _
          (first (is_for rule c.level && is_case_of rule c && same_spot lock.spot c.spot && same_kind lock.kind (rule_kind rule) && same_mode lock.mode
          (rule_mode rule c.mode)) _ given) in
          let kinds = second (is_for rule c.level && is_case_of rule c && same_spot lock.spot c.spot) _ front in
          let for_level = first (is_for rule c.level) _
          (first (is_for rule c.level && is_case_of rule c) _ (first (is_for rule c.level && is_case_of rule c && same_spot lock.spot c.spot) _ front)) in
          let number : lock.reason.rule ≡ number_of rule =
          eqb-true lock.reason.rule c.rule
          (first (lock.reason.rule == c.rule) _ (first (lock.reason.rule == c.rule && lock.reason.item == c.item) _ reason))
          ∙ number_is c.rule rule is in
          let level : lock.reason.level ≡ c.level = level_same lock.reason.level c.level
          (second (lock.reason.rule == c.rule && lock.reason.item == c.item) _ reason) in
          let tests = subst (λ n. (not (is_of_change by n) && is_left n) ≡ true) (sym number)
          (by_rule rule (gap_rule lock.kind (rule_kind rule) kinds kind) (ap (is_for rule) level ∙ for_level)) in
          both _ _ (both _ _ (not_intent lock.kind kind) (ap not (undone_is by) ∙ first (not (is_of_change by lock.reason.rule)) _ tests))
          (second (not (is_of_change by lock.reason.rule)) _ tests)

module _ (by : Option ℕ) (gone next : Spot) where
  -- locks on other spots stay
  pub moved_keeps : (p : Lock → Bool) → ((lock : Lock) → p lock ≡ true → same_spot lock.spot gone ≡ false) → (locks : List Lock) → list_any p locks ≡ true
      → list_any p (moved by gone next locks) ≡ true
  moved_keeps p elsewhere locks has = any_elsewhere by gone next p elsewhere [] locks has

  -- and whoever had the gap of the record that went has that of the next spot
  pub moved_gap : same_spot next gone ≡ false → (txn : ℕ) (locks : List Lock) → AllByRecursion FitsItsRule locks → has_gap txn gone.index gone.key locks ≡ true
      → has_gap txn next.index next.key (moved by gone next locks) ≡ true
  moved_gap apart txn locks fit has =
      any_moved by gone next FitsItsRule (is_gap_lock_at txn gone.index gone.key) (is_gap_lock_at txn next.index next.key) apart
      (gap_over txn next.index next.key)
      (λ lock fits is here. (
        gap_outlives by lock fits (second (is_lock_at txn gone.index gone.key lock) _ is),
        both _ _ (at_lock txn next.index next.key (as_gap (number_of RecordWent) next lock)
            (record { own = (at_gone lock is).own; here = refl; key = refl })) refl,
      ))
      (λ lock fits is elsewhere. absurd (true_false _
      (ap (λ (s : Spot). same_spot s gone) (spot_is lock.spot gone (at_gone lock is).here (at_gone lock is).key) ∙ spot_refl gone) elsewhere))
      [] locks fit has
    where
      at_gone : (lock : Lock) → is_gap_lock_at txn gone.index gone.key lock ≡ true → IsLockAt txn gone.index gone.key lock
      at_gone lock is = lock_at txn gone.index gone.key lock (first (is_lock_at txn gone.index gone.key lock) _ is)

  -- what is in the list of those moved is granted in the end
  pub any_removed : (p : Lock → Bool) (granted waiting : List Lock) → list_any p (moved by gone next granted) ≡ true
      → list_any p (after_removal by gone next granted waiting).granted ≡ true
  any_removed p granted waiting has =
      any_served p (moved by gone next granted ++ uncovered (moved by gone next granted) (left_by by gone next waiting)) [] (elsewhere gone waiting)
      (any_front p (moved by gone next granted) (uncovered (moved by gone next granted) (left_by by gone next waiting)) has)
