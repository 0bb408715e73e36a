-- The rounds that were made so far, and what one more leaves of them.
use Rattle.std.specs.Prelude.{◌≡◌, ℕ, Option, List, [], ◌∷◌, ◌++◌, All, Contains}
use Rattle.std.proofs.Common.{refl, sym, subst}
use Rattle.std.proofs.lemmas.List.Elements.{All-append, All-weaker, Contains-append_left, Contains-append_right}
use Rattle.lock_table.specs.Queue.{Lists, AreSound}
use Rattle.deadlock.specs.Cycles.{HasNoCycle}
use Rattle.deadlock.specs.declared.rollback.Size.{Size}
use Rattle.law_locks.specs.Settling.{Round, IsRound, AreRounds, AreSettled, after_withdrawal, after_rounds}
use Rattle.law_locks.proofs.Rounds.{sound_after, rounds_stood}

module _ (sizes : List Size) (asked : Option ℕ) where
  round_of_more : (grown more : List ℕ) (listed : (from : ℕ) → Contains grown from → Contains more from) (lists : Lists) (round : Round)
      → IsRound grown sizes asked lists round → IsRound more sizes asked lists round
  round_of_more grown more listed lists round is =
      record { from = is.from; listed = listed is.from is.listed; found = is.found; first = is.first; chosen = is.chosen }

  pub rounds_of_more : (grown more : List ℕ) (listed : (from : ℕ) → Contains grown from → Contains more from) (lists : Lists) (rounds : List Round)
      → AreRounds grown sizes asked lists rounds → AreRounds more sizes asked lists rounds
  rounds_of_more grown more listed lists [] are = record {}
  rounds_of_more grown more listed lists (round ∷ rounds) are =
      (round_of_more grown more listed lists round are.0, rounds_of_more grown more listed (after_withdrawal round.victim lists) rounds are.1)

  pub rounds_then : (grown : List ℕ) (lists : Lists) (rounds more : List Round) → AreRounds grown sizes asked lists rounds
      → AreRounds grown sizes asked (after_rounds lists rounds) more → AreRounds grown sizes asked lists (rounds ++ more)
  rounds_then grown lists [] more are next = next
  rounds_then grown lists (round ∷ rounds) more are next = (are.0, rounds_then grown (after_withdrawal round.victim lists) rounds more are.1 next)

  pub after_then : (lists : Lists) (rounds more : List Round) → after_rounds lists (rounds ++ more) ≡ after_rounds (after_rounds lists rounds) more
  after_then lists [] more = refl
  after_then lists (round ∷ rounds) more = after_then (after_withdrawal round.victim lists) rounds more

  pub sound_then : (lists : Lists) (rounds : List Round) → AreSound lists.granted lists.waiting
      → AreSound (after_rounds lists rounds).granted (after_rounds lists rounds).waiting
  sound_then lists [] sound = sound
  sound_then lists (round ∷ rounds) sound = sound_then (after_withdrawal round.victim lists) rounds (sound_after lists sound round.victim)

  -- rounds through more transactions come behind those that have come to their end
  pub settled_then : (grown more : List ℕ) (lists : Lists) (rounds next : List Round) → AreSound lists.granted lists.waiting
      → AreSettled grown sizes asked lists rounds → AreSettled more sizes asked (after_rounds lists rounds) next
      → AreSettled (grown ++ more) sizes asked lists (rounds ++ next)
  settled_then grown more lists rounds next sound first second = record {
    rounds_are =
        rounds_then (grown ++ more) lists rounds next
        (rounds_of_more grown (grown ++ more) (λ from. Contains-append_left grown more from) lists rounds first.rounds_are)
        (rounds_of_more more (grown ++ more) (λ from. Contains-append_right grown more from) (after_rounds lists rounds) next second.rounds_are);
    none =
        let mid = after_rounds lists rounds in
        let no_cycle : Lists → ℕ → Type 0 = λ now txn. HasNoCycle txn now.granted now.waiting in
        let stayed : (txn : ℕ) → no_cycle mid txn → no_cycle (after_rounds mid next) txn
        = λ txn none cycle is.
        none cycle (record { circle = rounds_stood more sizes asked mid (sound_then lists rounds sound) next cycle is.circle; through = is.through }) in
        subst (λ (now : Lists). All (no_cycle now) (grown ++ more)) (sym (after_then lists rounds next))
        (All-append (no_cycle (after_rounds mid next)) grown more
        (All-weaker (no_cycle mid) (no_cycle (after_rounds mid next)) stayed grown first.none) second.none);
  }
