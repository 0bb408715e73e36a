-- How many requests wait, and how many victims have not ended, where requests are granted and transactions end; and a request
-- that is refused before it is made.
use Rattle.std.proofs.Common.{◌≡◌, ℕ, ◌+◌, ◌<◌, ◌≤◌, Bool, true, false, List, [], ◌∷◌, ◌++◌, length, length-append, Option, refl, sym, ◌∙◌, arith, inl, inr}
use Rattle.std.specs.Prelude.{◌==◌, not, filter}
use Rattle.std.proofs.lemmas.Bool.{cases_Bool}
use Rattle.inno_types.specs.declared.lock.Lock.{Lock}
use Rattle.lock_table.specs.Queue.{serve, without, is_blocked, is_waiting}
use Rattle.lock_table.specs.Records.{moved, left_by, elsewhere, uncovered, after_removal, after_end}
use Rattle.lock_rules.specs.Spots.{same_spot}
use Rattle.lock_table.specs.View.{Table, must_wait, IsRefused, IsAnswered}
use Rattle.store_api.specs.declared.answers.Asked.{Asked}
use Rattle.store_api.specs.declared.answers.Asked.TheVariants.{Granted, Waits, NoMemory}
use Rattle.inno_types.specs.declared.lock.Edge.{Edge}
use Rattle.inno_types.specs.declared.lock.Spot.{Spot}

-- a part of a list is no longer
pub part_short : {T : Type 0} (f : T → Bool) (xs : List T) → length (filter f xs) ≤ length xs
part_short f [] = omega arith
part_short f (x ∷ xs) = elim (cases_Bool (f x)) [
  | inl e ↦ rw e (omega (arith, part_short f xs))
  | inr e ↦ rw e (omega (arith, part_short f xs))
]

-- requests that are granted wait no longer, and none comes
pub served_short : (held earlier queue : List Lock) → length (serve held earlier queue).waiting ≤ length earlier + length queue
served_short held earlier [] = omega arith
served_short held earlier (asked ∷ queue) = elim (cases_Bool (is_blocked held earlier asked)) [
  | inl e ↦ rw e (omega (arith, served_short held (earlier ++ asked ∷ []) queue, length-append earlier (asked ∷ [])))
  | inr e ↦ rw e (omega (arith, served_short (held ++ asked ∷ []) earlier queue))
]

-- one who waits leaves the queue
pub left_short : (txn : ℕ) (waiting : List Lock) → is_waiting txn waiting ≡ true → length (without txn waiting) < length waiting
left_short txn [] waits = absurd (cc)
left_short txn (asked ∷ queue) waits = elim (cases_Bool (asked.txn == txn)) [
  | inl e ↦ rw e (omega (arith, part_short (λ lock. not (lock.txn == txn)) queue))
  | inr e ↦ rw e (omega (arith, left_short txn queue (rw e at waits)))
]

-- a request is taken back
pub taken_back_short : (txn : ℕ) (granted waiting : List Lock) → length (serve granted [] (without txn waiting)).waiting ≤ length waiting
taken_back_short txn granted waiting =
    omega (arith, served_short granted [] (without txn waiting), part_short (λ lock. not (lock.txn == txn)) waiting)

-- a transaction ends
pub ended_short : (txn : ℕ) (granted waiting : List Lock) → length (after_end txn granted waiting).waiting ≤ length waiting
ended_short txn granted waiting =
    omega (arith, served_short (without txn granted) [] (without txn waiting), part_short (λ lock. not (lock.txn == txn)) waiting)

-- the request of one who waits is taken back
pub fallen_short : (txn : ℕ) (granted waiting : List Lock) → is_waiting txn waiting ≡ true → length (serve granted [] (without txn waiting)).waiting < length waiting
fallen_short txn granted waiting waits = omega (arith, served_short granted [] (without txn waiting), left_short txn waiting waits)

-- a record goes
pub removed_short : (by : Option ℕ) (gone next : Spot) (granted waiting : List Lock) → length (after_removal by gone next granted waiting).waiting ≤ length waiting
removed_short by gone next granted waiting =
    omega (
      arith,
      served_short (moved by gone next granted ++ uncovered (moved by gone next granted) (left_by by gone next waiting)) [] (elsewhere gone waiting),
      part_short (λ asked. not (same_spot asked.spot gone)) waiting,
    )

-- the request was refused before it was made
pub refused_here : (t : Table) (lock : Lock) → must_wait t lock ≡ true → IsRefused t t lock
refused_here t lock waits = record {
  granted = refl;
  waiting = refl;
  withdrawn = refl;
  rooms = record { stays = λ n rooms. rooms };
  stays = omega arith;
  full = λ free. absurd (let both : true ≡ false = sym waits ∙ free in cc);
  kept = λ free. absurd (let both : true ≡ false = sym waits ∙ free in cc);
}

-- the answer to a request that has to wait and is not queued
pub unqueued : (old new : Table) (lock : Lock) (answer : Asked) → must_wait old lock ≡ true → IsAnswered old new lock answer
    → ((edges : List Edge) → answer ≡ Waits edges → ⊥) → IsRefused old new lock
unqueued old new lock Granted waits is none = absurd (let both : true ≡ false = sym waits ∙ is.free in cc)
unqueued old new lock (Waits edges) waits is none = absurd (none edges refl)
unqueued old new lock NoMemory waits is none = is

-- and to one that need not wait
pub ungranted : (old new : Table) (lock : Lock) (answer : Asked) → must_wait old lock ≡ false → IsAnswered old new lock answer
    → (answer ≡ Granted → ⊥) → IsRefused old new lock
ungranted old new lock Granted free is none = absurd (none refl)
ungranted old new lock (Waits edges) free is none = absurd (let both : true ≡ false = sym is.waits ∙ free in cc)
ungranted old new lock NoMemory free is none = is
