-- A place that a chain passes over has no lock that is looked for.
use Rattle.std.proofs.Common.{◌≡◌, ◌≢◌, ℕ, ◌-◌, ◌<◌, ◌≤◌, ◌%◌, Bool, true, false, List, inl, inr, length, get_or, refl, sym, ap, ◌∙◌, arith}
use Rattle.std.specs.Prelude.{Option, None, Some, ◌==◌}
use Rattle.std.proofs.lemmas.Bool.{cases_eq, cases_lt, eqb-true}
use Rattle.inno_types.specs.declared.lock.Lock.{Lock}
use Rattle.lock_rules.proofs.Booleans.{split}
use Rattle.lock_lists.specs.Last.{IsLast, Chained}
use Rattle.lock_lists.specs.Places.{holds_at, is_of, sum_of, mark_of, AreChained}
use Rattle.lock_lists.proofs.Seen.{IsSeen, IsEmptied}

module _ (places : List (Option Lock)) (spots txns : Chained) (chained : AreChained places spots txns) where
  module _ (test : Lock → Bool) (sum : ℕ) (here : (lock : Lock) → test lock ≡ true → sum_of lock.spot ≡ sum) where
    unmarked : (place : Option Lock) → mark_of spots.room place ≢ Some (sum % spots.room) → holds_at test place ≡ false
    unmarked None apart = refl
    unmarked (Some lock) apart = split (test lock) (λ is. absurd (apart (ap (λ n. Some (n % spots.room)) (here lock is)))) (λ is. is)

    passed : (i : ℕ) → get_or spots.marks i None ≢ Some (sum % spots.room) → holds_at test (get_or places i None) ≡ false
    passed i apart = unmarked (get_or places i None) (λ is. apart (chained.spots_at i ∙ is))

    -- the walk begins
    pub seen_first : (from end : ℕ) → IsLast (sum % spots.room) spots.marks (length places) end → IsSeen test places from end None
    seen_first from end last = record {
      within = last.within;
      none = λ _ i behind below. passed i (last.behind i behind below);
      later = λ place is. absurd (cc is);
      some = λ place is. absurd (cc is);
    }

    module _ (from end before : ℕ) (next : Option ℕ) (seen : IsSeen test places from end next) (left : from < end) (last : IsLast (sum % spots.room) spots.marks (end - 1) before) where
      -- the place does not pass
      pub seen_on : holds_at test (get_or places (end - 1) None) ≡ false → IsSeen test places from before next
      seen_on fails = record {
        within = let upto = last.within in let long = seen.within in omega (arith, upto, long);
        none = λ is i behind below. elim (cases_lt i end) [
          | inl lt ↦ clear i behind lt
          | inr past ↦ seen.none is i past below
        ];
        later = seen.later;
        some = λ place is. let first = seen.some place is in record {
          later = let upto = last.within in let there = first.later in omega (arith, upto, there);
          within = first.within;
          there = first.there;
          between = λ i behind below. elim (cases_lt i end) [
            | inl lt ↦ clear i behind lt
            | inr past ↦ first.between i past below
          ];
        };
      } where
        clear : (i : ℕ) → before ≤ i → i < end → holds_at test (get_or places i None) ≡ false
        clear i behind lt = elim (cases_eq i (end - 1)) [
          | inl at ↦ ap (λ n. holds_at test (get_or places n None)) at ∙ fails
          | inr apart ↦ passed i (last.behind i behind (omega (arith, lt, apart)))
        ]

      -- it passes
      pub seen_here : holds_at test (get_or places (end - 1) None) ≡ true → IsSeen test places from before (Some (end - 1))
      seen_here is_so = record {
        within = let upto = last.within in let long = seen.within in omega (arith, upto, long);
        none = λ is. absurd (cc is);
        later = λ place is. let same : end - 1 ≡ place = cc is in omega (arith, same, left);
        some = λ place is. let same : end - 1 ≡ place = cc is in record {
          later = let upto = last.within in omega (arith, upto, same);
          within = let long = seen.within in omega (arith, same, long, left);
          there = ap (λ n. holds_at test (get_or places n None)) (sym same) ∙ is_so;
          between = λ i behind below. passed i (last.behind i behind (omega (arith, same, below)));
        };
      }

  module _ (txn : ℕ) where
    unowned : (i : ℕ) → get_or txns.marks i None ≢ Some (txn % txns.room) → (place : Option Lock) → get_or places i None ≡ place → holds_at (is_of txn) place ≡ false
    unowned i apart None is = refl
    unowned i apart (Some lock) is = split (lock.txn == txn)
        (λ own. absurd (apart (chained.txns_at i lock is ∙ ap (λ n. Some (n % txns.room)) (eqb-true lock.txn txn own))))
        (λ other. other)

    not_own : (i : ℕ) → get_or txns.marks i None ≢ Some (txn % txns.room) → holds_at (is_of txn) (get_or places i None) ≡ false
    not_own i apart = unowned i apart (get_or places i None) refl

    pub emptied_first : (limit end : ℕ) → IsLast (txn % txns.room) txns.marks limit end → IsEmptied (is_of txn) places limit end
    emptied_first limit end last = record { within = last.within; none = λ i behind below. not_own i (last.behind i behind below) }

    pub emptied_on : (limit end before : ℕ) → IsEmptied (is_of txn) places limit end → 0 < end → IsLast (txn % txns.room) txns.marks (end - 1) before
        → holds_at (is_of txn) (get_or places (end - 1) None) ≡ false → IsEmptied (is_of txn) places limit before
    emptied_on limit end before emptied left last fails = record {
      within = let upto = last.within in let long = emptied.within in omega (arith, upto, long);
      none = λ i behind below. elim (cases_lt i end) [
        | inl lt ↦ elim (cases_eq i (end - 1)) [
          | inl at ↦ ap (λ n. holds_at (is_of txn) (get_or places n None)) at ∙ fails
          | inr apart ↦ not_own i (last.behind i behind (omega (arith, lt, apart)))
        ]
        | inr past ↦ emptied.none i past below
      ];
    }
