-- What `find` answers in an inner page leads to the child that the entries choose.
use Rattle.std.proofs.Common.{◌≡◌, ℕ, zero, suc, ◌<◌, ◌≤◌, List, [], ◌∷◌, length, take, map, slice_index_or, true, refl, sym, ◌∙◌, ap, subst, arith}
use Rattle.std.specs.declared.cmp.Ordering.TheVariants.{Less, Greater}
use Rattle.std.specs.Ordering.{nat_cmp, is_le}
use Rattle.std.specs.List.{AllByRecursion}
use Rattle.std.specs.Cmp.Lexicographic.{slice_cmp}
use Rattle.std.proofs.lemmas.List.Elements.{recursion_from_All}
use Rattle.entries.specs.Pairs.{key_cmp}
use Rattle.entries.proofs.Order.{key_cmp_is, key_itself, below_all}
use Rattle.page_format.specs.Found.{IsFound}
use Rattle.page_format.specs.Shape.{AreRising}
use Rattle.page_format.specs.declared.records.Found.{Found}
use Rattle.page_format.specs.declared.records.Found.TheVariants.{At, Before}
use Rattle.law_flat_tree.specs.Levels.{Fence}
use Rattle.law_flat_tree.specs.Levels.Fence.{Key}
use Rattle.law_flat_tree.specs.Leaves.{IsFrom}
use Rattle.law_flat_tree.specs.Descents.{IsUnderNext, Chooses}
use Rattle.law_flat_tree.specs.Pages.{child_of, entry_of, entries_of, child_place}
use Rattle.law_flat_tree.proofs.Pages.{Below, lower}

-- one entry more before
further : (entry : Fence × ℕ) (entries : List (Fence × ℕ)) (key : List ℕ) (child : ℕ) → Chooses entries key child → Chooses (entry ∷ entries) key child
further entry entries key child is = record {
  before = entry ∷ is.before;
  fence = is.fence;
  behind = is.behind;
  chosen = record { whole = ap (λ l. entry ∷ l) is.chosen.whole; from = is.chosen.from; under = is.chosen.under };
}

-- a record below the key has its fence at or below it
from_below : (key r : List ℕ) → Below key r → IsFrom (Key (take (length key) r)) key
from_below key r below = ap is_le (key_cmp_is (take (length key) r) key ∙ below)

-- what is behind a record that is not above the key
next_above : (key k : List ℕ) (rs : List (List ℕ)) → ((other : List ℕ) → key_cmp k other ≡ Less → key_cmp key other ≡ Less)
    → AreRising (k ∷ map (take (length key)) rs) → IsUnderNext (map (entry_of (length key)) rs) key
next_above key k [] up rising = tt
next_above key k (s ∷ ss) up rising = up (take (length key) s) (key_cmp_is k (take (length key) s) ∙ rising.0)

rising_tail : (k : List ℕ) (ks : List (List ℕ)) → AreRising (k ∷ ks) → AreRising ks
rising_tail k [] rising = tt
rising_tail k (j ∷ ks) rising = rising.1

at_chosen : (fence : Fence) (r key : List ℕ) (rs : List (List ℕ)) → IsFrom fence key → take (length key) r ≡ key
    → AreRising (take (length key) r ∷ map (take (length key)) rs)
    → Chooses ((fence, child_of (length key) r) ∷ map (entry_of (length key)) rs) key (child_of (length key) r)
at_chosen fence r key rs from is rising = record {
  before = [];
  fence = fence;
  behind = map (entry_of (length key)) rs;
  chosen =
      record { whole = refl; from = from; under = next_above key (take (length key) r) rs (λ other less. subst (λ k. key_cmp k other ≡ Less) is less) rising };
}

found_tail : (key : List ℕ) (rs : List (List ℕ)) (i : ℕ) → AllByRecursion (Below key) (take i rs) → i < length rs
    → take (length key) (slice_index_or rs i []) ≡ key → AreRising (map (take (length key)) rs)
    → Chooses (map (entry_of (length key)) rs) key (child_of (length key) (slice_index_or rs i []))
found_tail key [] i below within is rising = absurd (omega (arith, within))
found_tail key (r ∷ rs) zero below within is rising =
    at_chosen (Key (take (length key) r)) r key rs (subst (λ k. is_le (key_cmp k key) ≡ true) (sym is) (ap is_le (key_itself key))) is rising
found_tail key (r ∷ rs) (suc i) below within is rising =
    further (entry_of (length key) r) (map (entry_of (length key)) rs) key (child_of (length key) (slice_index_or rs i []))
    (found_tail key rs i below.1 (omega (arith, within)) is (rising_tail (take (length key) r) (map (take (length key)) rs) rising))

gap_chosen : (key : List ℕ) (fence : Fence) (r : List ℕ) (rs : List (List ℕ)) (i : ℕ) → IsFrom fence key → AllByRecursion (Below key) (take i rs)
    → i ≤ length rs
    → (i < length rs → slice_cmp nat_cmp (take (length key) (slice_index_or rs i [])) key ≡ Greater)
    → Chooses ((fence, child_of (length key) r) ∷ map (entry_of (length key)) rs) key (child_of (length key) (slice_index_or (r ∷ rs) i []))
gap_chosen key fence r [] zero from below within here =
    record { before = []; fence = fence; behind = []; chosen = record { whole = refl; from = from; under = tt } }
gap_chosen key fence r [] (suc i) from below within here = absurd (omega (arith, within))
gap_chosen key fence r (s ∷ ss) zero from below within here = record {
  before = [];
  fence = fence;
  behind = map (entry_of (length key)) (s ∷ ss);
  chosen = record { whole = refl; from = from; under = lower key s (here (omega arith)) };
}
gap_chosen key fence r (s ∷ ss) (suc i) from below within here =
    further (fence, child_of (length key) r) (map (entry_of (length key)) (s ∷ ss)) key (child_of (length key) (slice_index_or (s ∷ ss) i []))
    (gap_chosen key (Key (take (length key) s)) s ss i (from_below key s below.0) below.1 (omega (arith, within)) (λ lt. here (omega (arith, lt))))

pub find_chooses : (low : Fence) (rs : List (List ℕ)) (key : List ℕ) (found : Found) → IsFound rs key found → AreRising (map (take (length key)) rs)
    → 0 < length rs → IsFrom low key
    → Chooses (entries_of (length key) low rs) key (child_of (length key) (slice_index_or rs (child_place found) []))
find_chooses low [] key found is rising some from = absurd (omega (arith, some))
find_chooses low (r ∷ rs) key (At zero) is rising some from = at_chosen low r key rs from is.2 rising
find_chooses low (r ∷ rs) key (At (suc i)) is rising some from =
    further (low, child_of (length key) r) (map (entry_of (length key)) rs) key (child_of (length key) (slice_index_or rs i []))
    (found_tail key rs i (recursion_from_All (Below key) (take (suc i) (r ∷ rs)) is.0).1 (omega (arith, is.1)) is.2
    (rising_tail (take (length key) r) (map (take (length key)) rs) rising))
find_chooses low (r ∷ rs) key (Before zero) is rising some from = record {
  before = [];
  fence = low;
  behind = map (entry_of (length key)) rs;
  chosen =
      record {
        whole = refl;
        from = from;
        under = next_above key (take (length key) r) rs
            (λ other less. below_all key (take (length key) r) other (lower key r (is.2 (omega arith))) less) rising;
      };
}
find_chooses low (r ∷ rs) key (Before (suc i)) is rising some from =
    gap_chosen key low r rs i from (recursion_from_All (Below key) (take (suc i) (r ∷ rs)) is.0).1 (omega (arith, is.1)) (λ lt. is.2 (omega (arith, lt)))
