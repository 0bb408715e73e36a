-- Where a request and its lock are once its wait has ended.
use Rattle.std.proofs.Common.{◌≡◌, ◌∙◌, ℕ, Bool, true, false, List, [], ◌∷◌, ◌++◌, ◌⊎◌, inl, inr, refl, sym, ap, subst}
use Rattle.std.proofs.lemmas.Bool.{eq-eqb, eqb-true}
use Rattle.std.proofs.lemmas.List.Folds.{list_any-append}
use Rattle.std.specs.Prelude.{◌==◌, ◌&&◌, ◌||◌, not, cond, filter, Option}
use Rattle.std.specs.List.{list_any, AllByRecursion}
use Rattle.inno_types.specs.declared.lock.LockKind.{LockKind}
use Rattle.inno_types.specs.declared.lock.LockKind.TheVariants.{Rec, Gap, NextKey, Intent}
use Rattle.inno_types.specs.declared.lock.Spot.{Spot}
use Rattle.inno_types.specs.declared.lock.Lock.{Lock}
use Rattle.lock_rules.specs.Kinds.{same_kind, same_level, same_mode}
use Rattle.lock_rules.specs.Spots.{same_spot}
use Rattle.lock_rules.specs.Conflicts.{same_lock, same_reason}
use Rattle.lock_rules.proofs.Booleans.{and_false, both, or_false, or_right, true_false, split}
use Rattle.lock_rules.proofs.Beside.{spot_refl}
use Rattle.lock_table.specs.declared.wait.Wait.TheVariants.{Lasts, Served, RecordGone, Withdrawn}
use Rattle.lock_table.specs.Queue.{serve, without, is_blocked, is_waiting, AreSingle}
use Rattle.lock_table.specs.Records.{moved, left_by, uncovered, elsewhere, after_removal}
use Rattle.lock_table.specs.View.{Table, with_lists, without_request, wait_of}
use Rattle.lock_table.proofs.Soundness.{all_left, all_moved_to, all_served, all_uncovered, mode_refl, item_refl, waiting_filter}
use Rattle.law_locks.proofs.Members.{IsIn, in_front, in_behind, any_from_in}
use Rattle.law_locks.proofs.Parts.{in_waits, none_without, part_waits, served_part}

-- ---- how the tests on a table tell it

module _ (table : Table) (lock : Lock) where
  abbrev listed : Bool
  listed = list_any (λ other. other == lock.txn) table.withdrawn

  abbrev stands : Bool
  stands = list_any (λ held. same_lock held lock) table.granted

  over : is_waiting lock.txn table.waiting ≡ false → wait_of table lock ≡ cond listed Withdrawn (cond stands Served RecordGone)
  over ended = ap (λ b. cond b Lasts (cond listed Withdrawn (cond stands Served RecordGone))) ended

  told_withdrawn : is_waiting lock.txn table.waiting ≡ false → listed ≡ true → wait_of table lock ≡ Withdrawn
  told_withdrawn ended is = over ended ∙ ap (λ b. cond b Withdrawn (cond stands Served RecordGone)) is

  told_by_locks : is_waiting lock.txn table.waiting ≡ false → listed ≡ false → wait_of table lock ≡ cond stands Served RecordGone
  told_by_locks ended none = over ended ∙ ap (λ b. cond b Withdrawn (cond stands Served RecordGone)) none

-- ---- taken back

pub told_taken_back : (txn : ℕ) (table : Table) (lock : Lock) → lock.txn ≡ txn → is_waiting txn table.waiting ≡ true → wait_of (without_request txn table) lock ≡ Withdrawn
told_taken_back txn table lock own waits =
    told_withdrawn (without_request txn table) lock
    (subst (λ t. is_waiting t (serve table.granted [] (without txn table.waiting)).waiting ≡ false) (sym own)
    (part_waits (serve table.granted [] (without txn table.waiting)).waiting (without txn table.waiting) (served_part table.granted [] (without txn table.waiting)) txn
    (none_without txn table.waiting)))
    (subst (λ b. list_any (λ other. other == lock.txn) (cond b (table.withdrawn ++ txn ∷ []) table.withdrawn) ≡ true) (sym waits)
    (list_any-append (λ other. other == lock.txn) table.withdrawn (txn ∷ [])
    ∙ or_right (list_any (λ other. other == lock.txn) table.withdrawn) _ (ap (λ b. b || false) (eq-eqb txn lock.txn (sym own)))))

-- ---- served

kind_refl : (kind : LockKind) → same_kind kind kind ≡ true
kind_refl Rec = refl
kind_refl Gap = refl
kind_refl NextKey = refl
kind_refl Intent = refl

same_itself : (lock : Lock) → same_lock lock lock ≡ true
same_itself lock =
    let reason : same_reason lock.reason lock.reason ≡ true
    = ap (λ b. b && lock.reason.item == lock.reason.item && same_level lock.reason.level lock.reason.level) (eq-eqb lock.reason.rule lock.reason.rule refl)
    ∙ item_refl lock.reason.item lock.reason.level in
    both _ _ (both _ _ (both _ _ (both _ _ (eq-eqb lock.txn lock.txn refl) (spot_refl lock.spot)) (kind_refl lock.kind)) (mode_refl lock.mode)) reason

-- no lock and no request is lost
served_somewhere : (held earlier queue : List Lock) (lock : Lock) → IsIn held lock ⊎ (IsIn earlier lock ⊎ IsIn queue lock)
    → IsIn (serve held earlier queue).granted lock ⊎ IsIn (serve held earlier queue).waiting lock
served_somewhere held earlier [] lock there = elim there [ inl granted ↦ inl granted | inr w ↦ elim w [ inl waits ↦ inr waits | inr none ↦ absurd none ] ]
served_somewhere held earlier (asked ∷ queue) lock there =
    elim (is_blocked held earlier asked) as (λ d. IsIn (cond d (serve held (earlier ++ asked ∷ []) queue) (serve (held ++ asked ∷ []) earlier queue)).granted lock
    ⊎ IsIn (cond d (serve held (earlier ++ asked ∷ []) queue) (serve (held ++ asked ∷ []) earlier queue)).waiting lock) [
      | true ↦ served_somewhere held (earlier ++ asked ∷ []) queue lock (elim there [
        | inl granted ↦ inl granted
        | inr w ↦ inr (elim w [
          | inl waits ↦ inl (in_front earlier (asked ∷ []) lock waits)
          | inr behind ↦ elim behind [ inl this ↦ inl (in_behind earlier (asked ∷ []) lock (inl this)) | inr rest ↦ inr rest ]
        ])
      ])
      | false ↦ served_somewhere (held ++ asked ∷ []) earlier queue lock (elim there [
        | inl granted ↦ inl (in_front held (asked ∷ []) lock granted)
        | inr w ↦ elim w [
          | inl waits ↦ inr (inl waits)
          | inr behind ↦ elim behind [ inl this ↦ inl (in_behind held (asked ∷ []) lock (inl this)) | inr rest ↦ inr (inr rest) ]
        ]
      ])
    ]

pub told_served : (table : Table) (held queue : List Lock) (lock : Lock) → IsIn queue lock → is_waiting lock.txn (serve held [] queue).waiting ≡ false
    → list_any (λ other. other == lock.txn) table.withdrawn ≡ false → wait_of (with_lists table (serve held [] queue)) lock ≡ Served
told_served table held queue lock there ended none =
    told_by_locks (with_lists table (serve held [] queue)) lock ended none
    ∙ ap (λ b. cond b Served RecordGone) (elim (served_somewhere held [] queue lock (inr (inr there))) [
      | inl granted ↦ any_from_in (λ other. same_lock other lock) (serve held [] queue).granted lock granted (same_itself lock)
      | inr waits ↦ absurd (true_false _ (in_waits (serve held [] queue).waiting lock waits) ended)
    ])

-- ---- its record went

single_gone : (test : Lock → Bool) (ws : List Lock) (lock : Lock) → AreSingle ws → IsIn ws lock → test lock ≡ false → is_waiting lock.txn (filter test ws) ≡ false
single_gone test [] lock single there fails = absurd there
single_gone test (w ∷ ws) lock single there fails = elim there [
  | inl here ↦
      let none : is_waiting lock.txn ws ≡ false = subst (λ (l : Lock). is_waiting l.txn ws ≡ false) here single.0 in
      subst (λ b. is_waiting lock.txn (cond b (w ∷ filter test ws) (filter test ws)) ≡ false) (sym (ap test here ∙ fails)) (waiting_filter lock.txn test ws none)
  | inr rest ↦
      let other : (w.txn == lock.txn) ≡ false =
      split (w.txn == lock.txn)
      (λ same. absurd (true_false _ (in_waits ws lock rest) (subst (λ t. is_waiting t ws ≡ false) (eqb-true w.txn lock.txn same) single.0)))
      (λ is_not. is_not) in
      elim (test w) as (λ b. is_waiting lock.txn (cond b (w ∷ filter test ws) (filter test ws)) ≡ false) [
        | true ↦ or_false (w.txn == lock.txn) _ other (single_gone test ws lock single.1 rest fails)
        | false ↦ single_gone test ws lock single.1 rest fails
      ]
]

module _ (by : Option ℕ) (gone next : Spot) (apart : same_spot next gone ≡ false) where
  abbrev IsElsewhere : Lock → Type 0
  IsElsewhere lock = same_spot lock.spot gone ≡ false

  all_queue : (queue : List Lock) → AllByRecursion IsElsewhere (elsewhere gone queue)
  all_queue [] = tt
  all_queue (asked ∷ queue) =
      split (same_spot asked.spot gone)
      (λ here. subst (λ b. AllByRecursion IsElsewhere (cond (not b) (asked ∷ elsewhere gone queue) (elsewhere gone queue))) (sym here) (all_queue queue))
      (λ other. subst (λ b. AllByRecursion IsElsewhere (cond (not b) (asked ∷ elsewhere gone queue) (elsewhere gone queue))) (sym other) (other, all_queue queue))

  both_lists : (xs ys : List Lock) → AllByRecursion IsElsewhere xs → AllByRecursion IsElsewhere ys → AllByRecursion IsElsewhere (xs ++ ys)
  both_lists [] ys all more = more
  both_lists (x ∷ xs) ys all more = (all.0, both_lists xs ys all.1 more)

  any_lock : (locks : List Lock) → AllByRecursion (λ (lock : Lock). Unit {0}) locks
  any_lock [] = tt
  any_lock (lock ∷ locks) = (tt, any_lock locks)

  -- no lock is left on the record
  all_granted : (granted waiting : List Lock) → AllByRecursion IsElsewhere (after_removal by gone next granted waiting).granted
  all_granted granted waiting =
      let now = moved by gone next granted in
      (all_served IsElsewhere (now ++ uncovered now (left_by by gone next waiting)) [] (elsewhere gone waiting)
      (both_lists now (uncovered now (left_by by gone next waiting))
      (all_moved_to IsElsewhere (λ lock. Unit {0}) by gone next (λ lock. apart) (λ lock _ other. other) [] granted tt (any_lock granted))
      (all_uncovered IsElsewhere now (left_by by gone next waiting) (all_left IsElsewhere by gone next (λ lock. apart) waiting)))
      tt (all_queue waiting)).0

  none_like : (lock : Lock) → lock.spot ≡ gone → (locks : List Lock) → AllByRecursion IsElsewhere locks → list_any (λ held. same_lock held lock) locks ≡ false
  none_like lock at [] all = refl
  none_like lock at (w ∷ locks) all =
      or_false (same_lock w lock) _
      (ap (λ b. b && same_kind w.kind lock.kind && same_mode w.mode lock.mode && same_reason w.reason lock.reason)
      (ap (λ b. w.txn == lock.txn && b) (ap (same_spot w.spot) at ∙ all.0) ∙ and_false (w.txn == lock.txn)))
      (none_like lock at locks all.1)

  pub told_gone : (table : Table) (lock : Lock) → AreSingle table.waiting → IsIn table.waiting lock → lock.spot ≡ gone
      → list_any (λ other. other == lock.txn) table.withdrawn ≡ false
      → wait_of (with_lists table (after_removal by gone next table.granted table.waiting)) lock ≡ RecordGone
  told_gone table lock single there at none =
      let after = after_removal by gone next table.granted table.waiting in
      let now = moved by gone next table.granted in
      told_by_locks (with_lists table after) lock
      (part_waits after.waiting (elsewhere gone table.waiting)
      (served_part (now ++ uncovered now (left_by by gone next table.waiting)) [] (elsewhere gone table.waiting)) lock.txn
      (single_gone (λ asked. not (same_spot asked.spot gone)) table.waiting lock single there (ap (λ s. not (same_spot s gone)) at ∙ ap not (spot_refl gone))))
      none
      ∙ ap (λ b. cond b Served RecordGone) (none_like lock at after.granted (all_granted table.granted table.waiting))
