-- Cycles are ended one after the other, by rounds: a cycle is found, and the request of its victim goes.
use Rattle.std.specs.Prelude.{ℕ, Option, List, [], ◌∷◌, All, Contains}
use Rattle.inno_types.specs.declared.lock.Edge.{Edge}
use Rattle.lock_table.specs.Queue.{Lists, serve, without}
use Rattle.deadlock.specs.Cycles.{IsCycleThrough, HasNoCycle, IsDepthFirst}
use Rattle.deadlock.specs.Victim.{IsVictim}
use Rattle.deadlock.specs.declared.rollback.Size.{Size}

pub record Round : Type 0 where
  pub cycle : List Edge
  pub victim : ℕ

-- the cycle is the first that is met from one of these transactions, and the victim is the one that is chosen of it
pub record IsRound (grown : List ℕ) (sizes : List Size) (asked : Option ℕ) (lists : Lists) (round : Round) : Type 0 where
  pub from : ℕ
  pub listed : Contains grown from
  pub found : IsCycleThrough from lists.granted lists.waiting round.cycle
  pub first : IsDepthFirst from lists.granted lists.waiting round.cycle
  pub chosen : IsVictim round.cycle sizes asked round.victim

-- the transaction's request goes, and requests are granted in order
abbrev pub after_withdrawal : ℕ → Lists → Lists
after_withdrawal txn lists = serve lists.granted [] (without txn lists.waiting)

abbrev pub after_rounds : Lists → List Round → Lists
after_rounds lists [] = lists
after_rounds lists (round ∷ rounds) = after_rounds (after_withdrawal round.victim lists) rounds

-- each is a round on the lists that the earlier ones have left
abbrev pub AreRounds : List ℕ → List Size → Option ℕ → Lists → List Round → Type 0
AreRounds grown sizes asked lists [] = Unit {0}
AreRounds grown sizes asked lists (round ∷ rounds) =
    IsRound grown sizes asked lists round × AreRounds grown sizes asked (after_withdrawal round.victim lists) rounds

-- the rounds have come to their end: no cycle goes through any of these transactions
pub record AreSettled (grown : List ℕ) (sizes : List Size) (asked : Option ℕ) (lists : Lists) (rounds : List Round) : Type 0 where
  pub rounds_are : AreRounds grown sizes asked lists rounds
  pub none : All (λ txn. HasNoCycle txn (after_rounds lists rounds).granted (after_rounds lists rounds).waiting) grown
