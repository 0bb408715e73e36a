-- One step of a walk back along a chain.
use Rattle.std.proofs.Common.{ℕ, ◌-◌, ◌<◌, List, get_or, arith}
use Rattle.std.specs.Prelude.{Option}
use Rattle.lock_lists.specs.Last.{IsLast, AreLinked}
use Rattle.lock_lists.proofs.Chain.{IsBack, IsPast}

module _ (newest older : List ℕ) (marks : List (Option ℕ)) (linked : AreLinked newest marks older) (bucket : ℕ) where
  abbrev before : ℕ → ℕ
  before at = get_or older (at - 1) 0

  module _ (limit at : ℕ) (back : IsBack bucket marks limit at) (lt : limit < at) where
    link : IsLast bucket marks (at - 1) (before at)
    link = linked.links (at - 1) bucket (back.there (at - 1) (omega (arith, lt)))

    pub back_falls : before at < at
    back_falls = let upto = link.within in omega (arith, lt, upto)

    pub goes_back : IsBack bucket marks limit (before at)
    goes_back = let upto = link.within in let long = back.within in record {
      within = omega (arith, lt, upto, long);
      there = link.there;
      behind = λ i from below. link.behind i from (omega (arith, lt, below));
    }

  module _ (from next at : ℕ) (past : IsPast bucket marks from next at) (lt : from < at) where
    here : IsLast bucket marks (at - 1) (before at)
    here = linked.links (at - 1) bucket (past.there (at - 1) (omega (arith, lt)))

    pub past_falls : before at < at
    past_falls = let upto = here.within in omega (arith, lt, upto)

    pub goes_past : IsPast bucket marks from (at - 1) (before at)
    goes_past = let upto = here.within in let before_next = past.within in let long = past.long in record {
      within = upto;
      long = omega (arith, lt, before_next, long);
      later = λ _. omega (arith, lt);
      there = here.there;
      next_there = λ _. past.there (at - 1) (omega (arith, lt));
      between = here.behind;
    }
