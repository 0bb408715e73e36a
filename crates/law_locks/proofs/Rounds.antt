-- Rounds that end cycles: each makes the queue shorter, and once nothing is left to end, no cycle stands.
use Rattle.std.specs.Prelude.{◌≡◌, ℕ, ◌+◌, ◌<◌, ◌≤◌, ◌==◌, not, true, false, Option, None, Some, List, [], ◌∷◌, length}
use Rattle.std.proofs.Common.{inl, inr, refl, sym, ap, ◌∙◌, arith}
use Rattle.std.proofs.lemmas.Bool.{cases_eq}
use Rattle.std.proofs.lemmas.List.Elements.{All-contains}
use Rattle.inno_types.specs.declared.lock.Edge.{Edge}
use Rattle.inno_types.specs.declared.lock.Lock.{Lock}
use Rattle.lock_rules.proofs.Booleans.{true_false}
use Rattle.lock_table.specs.Queue.{Lists, without, is_waiting, AreSound}
use Rattle.lock_table.proofs.Soundness.{served, locks_are, requests_left}
use Rattle.deadlock.specs.Cycles.{waiters, IsCycle, HasNoCycle}
use Rattle.deadlock.specs.Victim.{changes_of, GoesBefore, IsVictim}
use Rattle.deadlock.specs.declared.rollback.Size.{Size}
use Rattle.law_locks.specs.Waits.{AreFree, AllMeet}
use Rattle.law_locks.specs.Settling.{Round, IsRound, AreRounds, AreSettled, after_withdrawal, after_rounds}
use Rattle.law_locks.proofs.Members.{in_from_contains}
use Rattle.law_locks.proofs.Parts.{part_waits, served_part, served_fewer, without_fewer, none_without}
use Rattle.law_locks.proofs.Edges.{waiters_wait}
use Rattle.law_locks.proofs.Calls.{stood_before, withdrawn_less}

module _ (lists : Lists) (sound : AreSound lists.granted lists.waiting) (txn : ℕ) where
  pub sound_after : AreSound (after_withdrawal txn lists).granted (after_withdrawal txn lists).waiting
  sound_after =
      let locks = locks_are lists.granted lists.waiting sound in
      let requests = requests_left lists.granted lists.waiting sound (λ lock. not (lock.txn == txn)) (without txn lists.waiting) refl in
      served lists.granted (without txn lists.waiting) locks.0 requests.0 locks.1 requests.1

  pub cycles_stood : (cycle : List Edge) → IsCycle (after_withdrawal txn lists).granted (after_withdrawal txn lists).waiting cycle
      → IsCycle lists.granted lists.waiting cycle
  cycles_stood = stood_before lists.granted lists.waiting _ _ sound.single
      (withdrawn_less (λ lock. not (lock.txn == txn)) lists.granted lists.waiting sound.single)

pub fewer_after : (lists : Lists) (txn : ℕ) → is_waiting txn lists.waiting ≡ true → length (after_withdrawal txn lists).waiting < length lists.waiting
fewer_after lists txn waits = omega (arith, served_fewer lists.granted [] (without txn lists.waiting), without_fewer txn lists.waiting waits)

pub waits_no_more : (lists : Lists) (txn : ℕ) → is_waiting txn (after_withdrawal txn lists).waiting ≡ false
waits_no_more lists txn = part_waits _ (without txn lists.waiting) (served_part lists.granted [] (without txn lists.waiting)) txn
    (none_without txn lists.waiting)

-- who does not wait is on no cycle
pub free_of : (granted waiting : List Lock) (txn : ℕ) → is_waiting txn waiting ≡ false → HasNoCycle txn granted waiting
free_of granted waiting txn dead cycle is = true_false _
    (waiters_wait granted waiting cycle is.circle txn (in_from_contains (waiters cycle) txn is.through)) dead

none_some : (a : ℕ) → ◌≡◌ {A = Option ℕ} None (Some a) → ⊥
none_some a e = cc

some_same : (t a : ℕ) → ◌≡◌ {A = Option ℕ} (Some t) (Some a) → t ≡ a
some_same t a e = cc

-- the victim of a cycle is one alone
pub one_victim : (cycle : List Edge) (sizes : List Size) (asked : Option ℕ) (a b : ℕ) → IsVictim cycle sizes asked a → IsVictim cycle sizes asked b → a ≡ b
one_victim cycle sizes asked a b first second =
    let there : GoesBefore sizes asked a b = All-contains (GoesBefore sizes asked a) (waiters cycle) b first.before_others second.in_cycle in
    let back : GoesBefore sizes asked b a = All-contains (GoesBefore sizes asked b) (waiters cycle) a second.before_others first.in_cycle in
    let same : changes_of a sizes ≡ changes_of b sizes = omega (arith, there.fewest, back.fewest) in
    by_asked a b there back same asked refl
  where
    by_asked : (a b : ℕ) → GoesBefore sizes asked a b → GoesBefore sizes asked b a → changes_of a sizes ≡ changes_of b sizes → (o : Option ℕ) → asked ≡ o
        → a ≡ b
    by_asked a b there back same None is = omega
        (arith, there.latest same (λ e. none_some a (sym is ∙ e)), back.latest (sym same) (λ e. none_some b (sym is ∙ e)))
    by_asked a b there back same (Some t) is = elim (cases_eq t a) [
      | inl own ↦ sym (back.asker (sym same) (is ∙ ap Some own))
      | inr not_a ↦ elim (cases_eq t b) [
        | inl own ↦ there.asker same (is ∙ ap Some own)
        | inr not_b ↦ omega (
          arith,
          there.latest same (λ e. not_a (some_same t a (sym is ∙ e))),
          back.latest (sym same)
              (λ e. not_b (some_same t b (sym is ∙ e))),
        )
      ]
    ]

module _ (grown : List ℕ) (sizes : List Size) (asked : Option ℕ) where
  victim_waits : (lists : Lists) (round : Round) → IsRound grown sizes asked lists round → is_waiting round.victim lists.waiting ≡ true
  victim_waits lists round is = waiters_wait lists.granted lists.waiting round.cycle is.found.circle round.victim
      (in_from_contains (waiters round.cycle) round.victim is.chosen.in_cycle)

  pub rounds_end : (lists : Lists) (rounds : List Round) → AreRounds grown sizes asked lists rounds
      → length (after_rounds lists rounds).waiting + length rounds ≤ length lists.waiting
  rounds_end lists [] are = omega arith
  rounds_end lists (round ∷ rounds) are = omega
      (arith, rounds_end (after_withdrawal round.victim lists) rounds are.1, fewer_after lists round.victim (victim_waits lists round are.0))

  -- no round closes a cycle
  pub rounds_stood : (lists : Lists) → AreSound lists.granted lists.waiting → (rounds : List Round) → (cycle : List Edge)
      → IsCycle (after_rounds lists rounds).granted (after_rounds lists rounds).waiting cycle → IsCycle lists.granted lists.waiting cycle
  rounds_stood lists sound [] cycle is = is
  rounds_stood lists sound (round ∷ rounds) cycle is =
      cycles_stood lists sound round.victim cycle (rounds_stood (after_withdrawal round.victim lists) (sound_after lists sound round.victim) rounds cycle is)

  pub settled_free : (lists : Lists) → AreSound lists.granted lists.waiting → AllMeet grown lists.granted lists.waiting → (rounds : List Round)
      → AreSettled grown sizes asked lists rounds → AreFree (after_rounds lists rounds).granted (after_rounds lists rounds).waiting
  settled_free lists sound meet rounds settled cycle is =
      let meets = meet cycle (rounds_stood lists sound rounds cycle is) in
      All-contains (λ txn. HasNoCycle txn (after_rounds lists rounds).granted (after_rounds lists rounds).waiting) grown meets.txn settled.none meets.listed
      cycle
      (record { circle = is; through = meets.waits })
