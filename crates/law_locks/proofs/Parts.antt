-- Queues from which requests are gone: those that are left stand in the order in which they stood.
use Rattle.std.specs.Prelude.{◌≡◌, ℕ, ◌+◌, ◌≤◌, ◌<◌, ◌==◌, not, Bool, true, false, cond, List, [], ◌∷◌, ◌++◌, length, filter}
use Rattle.std.proofs.Common.{◌⊎◌, inl, inr, refl, sym, ap, subst, arith, append_assoc, append-nil, length-append}
use Rattle.std.proofs.lemmas.Bool.{eq-eqb, eqb-true}
use Rattle.inno_types.specs.declared.lock.Lock.{Lock}
use Rattle.lock_rules.proofs.Booleans.{or_false, or_cases, split, true_false}
use Rattle.lock_table.specs.Queue.{serve, is_blocked, is_waiting, without, AreSingle}
use Rattle.law_locks.proofs.Members.{IsIn, IsBefore, in_behind, in_cases, in_filter, any_from_in}

-- ---- who waits

pub waits_in : (txn : ℕ) (waiting : List Lock) → is_waiting txn waiting ≡ true → (asked : Lock) × IsIn waiting asked × (asked.txn ≡ txn)
waits_in txn [] waits = cc
waits_in txn (asked ∷ waiting) waits =
    elim (or_cases (asked.txn == txn) _ waits) [
      | inl here ↦ (asked, inl refl, eqb-true asked.txn txn here)
      | inr rest ↦ let more = waits_in txn waiting rest in (more.0, inr more.1, more.2)
    ]

pub in_waits : (waiting : List Lock) (asked : Lock) → IsIn waiting asked → is_waiting asked.txn waiting ≡ true
in_waits waiting asked there = any_from_in (λ other. other.txn == asked.txn) waiting asked there (eq-eqb asked.txn asked.txn refl)

-- ---- parts

-- the one queue has what the other one has, in its order
pub record IsPart (new old : List Lock) : Type 0 where
  pub there : (x : Lock) → IsIn new x → IsIn old x
  pub order : (x y : Lock) → IsBefore new x y → IsBefore old x y

pub part_itself : (queue : List Lock) → IsPart queue queue
part_itself queue = record { there = λ x is. is; order = λ x y is. is }

pub part_of_part : (a b c : List Lock) → IsPart a b → IsPart b c → IsPart a c
part_of_part a b c first second = record { there = λ x is. second.there x (first.there x is); order = λ x y is. second.order x y (first.order x y is) }

-- a part stays one behind another request, and where one more stands before the old queue
part_behind : (w : Lock) (new old : List Lock) → IsPart new old → IsPart (w ∷ new) (w ∷ old)
part_behind w new old part = record {
  there = λ x is. elim is [ inl here ↦ inl here | inr rest ↦ inr (part.there x rest) ];
  order = λ x y is. elim is [ inl here ↦ inl (here.0, part.there y here.1) | inr rest ↦ inr (part.order x y rest) ];
}

part_of_more : (w : Lock) (new old : List Lock) → IsPart new old → IsPart new (w ∷ old)
part_of_more w new old part = record { there = λ x is. inr (part.there x is); order = λ x y is. inr (part.order x y is) }

pub filtered_part : (test : Lock → Bool) (queue : List Lock) → IsPart (filter test queue) queue
filtered_part test [] = part_itself []
filtered_part test (w ∷ queue) =
    let rest = filtered_part test queue in
    elim (test w) as (λ b. IsPart (cond b (w ∷ filter test queue) (filter test queue)) (w ∷ queue)) [
      | true ↦ part_behind w (filter test queue) queue rest
      | false ↦ part_of_more w (filter test queue) queue rest
    ]

part_less : (earlier : List Lock) (w : Lock) (queue : List Lock) → IsPart (earlier ++ queue) (earlier ++ w ∷ queue)
part_less [] w queue = part_of_more w queue queue (part_itself queue)
part_less (e ∷ earlier) w queue = part_behind e (earlier ++ queue) (earlier ++ w ∷ queue) (part_less earlier w queue)

pub served_part : (held earlier queue : List Lock) → IsPart (serve held earlier queue).waiting (earlier ++ queue)
served_part held earlier [] = subst (IsPart earlier) (sym (append-nil earlier)) (part_itself earlier)
served_part held earlier (asked ∷ queue) =
    elim (is_blocked held earlier asked) as (λ b. IsPart
    (cond b (serve held (earlier ++ asked ∷ []) queue) (serve (held ++ asked ∷ []) earlier queue)).waiting (earlier ++ asked ∷ queue)) [
      | true ↦ subst (IsPart (serve held (earlier ++ asked ∷ []) queue).waiting) (append_assoc earlier (asked ∷ []) queue)
          (served_part held (earlier ++ asked ∷ []) queue)
      | false ↦ part_of_part _ (earlier ++ queue) _ (served_part (held ++ asked ∷ []) earlier queue) (part_less earlier asked queue)
    ]

-- who has no request in a queue has none in a part of it
pub part_waits : (new old : List Lock) → IsPart new old → (txn : ℕ) → is_waiting txn old ≡ false → is_waiting txn new ≡ false
part_waits new old part txn none =
    split (is_waiting txn new)
    (λ waits.
    let request = waits_in txn new waits in
    absurd (true_false _ (subst (λ t. is_waiting t old ≡ true) request.2 (in_waits old request.0 (part.there request.0 request.1))) none))
    (λ not_waits. not_waits)

-- ---- requests that are granted

-- the transaction of a request has no other one
single_out : (earlier : List Lock) (asked : Lock) (queue : List Lock) → AreSingle (earlier ++ asked ∷ queue) → is_waiting asked.txn (earlier ++ queue) ≡ false
single_out [] asked queue single = single.0
single_out (e ∷ earlier) asked queue single =
    or_false (e.txn == asked.txn) _
    (split (e.txn == asked.txn)
    (λ same. absurd (true_false _ (in_waits_of (eqb-true e.txn asked.txn same)) single.0))
    (λ other. other))
    (single_out earlier asked queue single.1)
  where
    in_waits_of : e.txn ≡ asked.txn → is_waiting e.txn (earlier ++ asked ∷ queue) ≡ true
    in_waits_of same = subst (λ t. is_waiting t (earlier ++ asked ∷ queue) ≡ true) (sym same)
        (in_waits (earlier ++ asked ∷ queue) asked (in_behind earlier (asked ∷ queue) asked (inl refl)))

single_rest : (earlier : List Lock) (asked : Lock) (queue : List Lock) → AreSingle (earlier ++ asked ∷ queue) → AreSingle (earlier ++ queue)
single_rest [] asked queue single = single.1
single_rest (e ∷ earlier) asked queue single =
    (part_waits (earlier ++ queue) (earlier ++ asked ∷ queue) (part_less earlier asked queue) e.txn single.0, single_rest earlier asked queue single.1)

-- whoever's request is granted waits no longer
pub served_locks : (held earlier queue : List Lock) → AreSingle (earlier ++ queue) → (lock : Lock) → IsIn (serve held earlier queue).granted lock
    → IsIn held lock ⊎ (is_waiting lock.txn (serve held earlier queue).waiting ≡ false)
served_locks held earlier [] single lock there = inl there
served_locks held earlier (asked ∷ queue) single lock there =
    split (is_blocked held earlier asked)
    (λ blocked.
    subst (λ b. IsIn held lock ⊎ (is_waiting lock.txn (cond b (serve held (earlier ++ asked ∷ []) queue) (serve (held ++ asked ∷ []) earlier queue)).waiting
    ≡ false))
    (sym blocked)
    (served_locks held (earlier ++ asked ∷ []) queue (subst AreSingle (sym (append_assoc earlier (asked ∷ []) queue)) single) lock
    (subst (λ b. IsIn (cond b (serve held (earlier ++ asked ∷ []) queue) (serve (held ++ asked ∷ []) earlier queue)).granted lock) blocked there)))
    (λ free.
    subst (λ b. IsIn held lock ⊎ (is_waiting lock.txn (cond b (serve held (earlier ++ asked ∷ []) queue) (serve (held ++ asked ∷ []) earlier queue)).waiting
    ≡ false))
    (sym free)
    (elim (served_locks (held ++ asked ∷ []) earlier queue (single_rest earlier asked queue single) lock
    (subst (λ b. IsIn (cond b (serve held (earlier ++ asked ∷ []) queue) (serve (held ++ asked ∷ []) earlier queue)).granted lock) free there)) [
      | inr done ↦ inr done
      | inl now ↦ elim (in_cases held (asked ∷ []) lock now) [
        | inl before ↦ inl before
        | inr this ↦ elim this [
          | inr none ↦ absurd none
          | inl same ↦ inr (subst (λ (l : Lock). is_waiting l.txn (serve (held ++ asked ∷ []) earlier queue).waiting ≡ false) same
              (part_waits _ (earlier ++ queue) (served_part (held ++ asked ∷ []) earlier queue) asked.txn (single_out earlier asked queue single)))
        ]
      ]
    ]))

-- ---- how many are left

pub served_fewer : (held earlier queue : List Lock) → length (serve held earlier queue).waiting ≤ length earlier + length queue
served_fewer held earlier [] = omega arith
served_fewer held earlier (asked ∷ queue) =
    elim (is_blocked held earlier asked) as (λ b. length
    (cond b (serve held (earlier ++ asked ∷ []) queue) (serve (held ++ asked ∷ []) earlier queue)).waiting ≤ length earlier + length (asked ∷ queue)) [
      | true ↦ omega (arith, served_fewer held (earlier ++ asked ∷ []) queue, length-append earlier (asked ∷ []))
      | false ↦ omega (arith, served_fewer (held ++ asked ∷ []) earlier queue)
    ]

pub filter_upto : (test : Lock → Bool) (queue : List Lock) → length (filter test queue) ≤ length queue
filter_upto test [] = omega arith
filter_upto test (w ∷ queue) =
    elim (test w) as (λ b. length (cond b (w ∷ filter test queue) (filter test queue)) ≤ length (w ∷ queue)) [
      | true ↦ omega (arith, filter_upto test queue)
      | false ↦ omega (arith, filter_upto test queue)
    ]

pub without_fewer : (txn : ℕ) (queue : List Lock) → is_waiting txn queue ≡ true → length (without txn queue) < length queue
without_fewer txn [] waits = cc
without_fewer txn (w ∷ queue) waits =
    split (w.txn == txn)
    (λ own. subst (λ b. length (cond (not b) (w ∷ without txn queue) (without txn queue)) < length (w ∷ queue)) (sym own)
    (omega (arith, filter_upto (λ lock. not (lock.txn == txn)) queue)))
    (λ other. subst (λ b. length (cond (not b) (w ∷ without txn queue) (without txn queue)) < length (w ∷ queue)) (sym other)
    (omega (arith, without_fewer txn queue (elim (or_cases (w.txn == txn) _ waits) [ inl own ↦ absurd (true_false _ own other) | inr rest ↦ rest ]))))

-- who has taken its request back waits no longer
pub none_without : (txn : ℕ) (queue : List Lock) → is_waiting txn (without txn queue) ≡ false
none_without txn queue =
    split (is_waiting txn (without txn queue))
    (λ waits.
    let request = waits_in txn (without txn queue) waits in
    let kept = in_filter (λ lock. not (lock.txn == txn)) queue request.0 request.1 in
    absurd (true_false _ kept.1 (ap not (eq-eqb request.0.txn txn request.2))))
    (λ not_waits. not_waits)
