-- The child that a page leads to for a key is the one that its entries choose.
use Rattle.std.proofs.Common.{◌≡◌, ℕ, true, false, zero, suc, ◌-◌, ◌<◌, List, [], ◌∷◌, length, take, map, slice_index_or, refl, sym, ◌∙◌, ap, subst, arith}
use Rattle.std.proofs.lemmas.Bool.{false≢true}
use Rattle.std.specs.declared.cmp.Ordering.{Ordering}
use Rattle.std.specs.declared.cmp.Ordering.TheVariants.{Less, Equal, Greater}
use Rattle.std.specs.Ordering.{is_le, is_lt}
use Rattle.entries.specs.Pairs.{key_cmp}
use Rattle.entries.proofs.Order.{key_cmp_is, key_itself, same_key, lower_from, below_all}
use Rattle.page_format.specs.Shape.{AreRising}
use Rattle.law_flat_tree.specs.Levels.{Fence}
use Rattle.law_flat_tree.specs.Levels.Fence.{Key}
use Rattle.law_flat_tree.specs.Leaves.{IsFrom}
use Rattle.law_flat_tree.specs.Descents.{IsUnderNext, Chooses}
use Rattle.law_flat_tree.specs.Pages.{child_of, entry_of, entries_of}
use Rattle.btree.specs.declared.tree.Bound.TheVariants.{Above}
use Rattle.btree.specs.Places.{record_passes, StartsAt}
use Rattle.btree.specs.Descents.{IsChildFor}

-- one entry more before
further : (entry : Fence × ℕ) (entries : List (Fence × ℕ)) (key : List ℕ) (child : ℕ) → Chooses entries key child → Chooses (entry ∷ entries) key child
further entry entries key child is = record {
  before = entry ∷ is.before;
  fence = is.fence;
  behind = is.behind;
  chosen = record { whole = ap (λ l. entry ∷ l) is.chosen.whole; from = is.chosen.from; under = is.chosen.under };
}

lower_by : (key other : List ℕ) → is_lt (key_cmp key other) ≡ true → key_cmp key other ≡ Less
lower_by key other is = go (key_cmp key other) refl where
  go : (o : Ordering) → o ≡ key_cmp key other → key_cmp key other ≡ Less
  go Less same = sym same
  go Equal same = absurd (false≢true (ap is_lt same ∙ is))
  go Greater same = absurd (false≢true (ap is_lt same ∙ is))

-- a key that isn't above the other has the other at it or above
from_by : (key other : List ℕ) → is_lt (key_cmp key other) ≡ false → is_le (key_cmp other key) ≡ true
from_by key other is = go (key_cmp key other) refl where
  go : (o : Ordering) → o ≡ key_cmp key other → is_le (key_cmp other key) ≡ true
  go Less same = absurd (false≢true (sym is ∙ ap is_lt (sym same)))
  go Equal same = ap is_le (subst (λ k. key_cmp other k ≡ Equal) (sym (same_key key other (sym same))) (key_itself other))
  go Greater same = ap is_le (lower_from key other (sym same))

-- among entries of which the first is at or below the key
among : (n : ℕ) (key : List ℕ) (fence : Fence) (r : List ℕ) (rs : List (List ℕ)) (i : ℕ) → IsFrom fence key → StartsAt (record_passes n Above key) rs i
    → Chooses ((fence, child_of n r) ∷ map (entry_of n) rs) key (child_of n (slice_index_or (r ∷ rs) i []))
among n key fence r [] zero from starts = record { before = []; fence = fence; behind = []; chosen = record { whole = refl; from = from; under = tt } }
among n key fence r [] (suc i) from starts = absurd (omega (arith, starts.within))
among n key fence r (s ∷ ss) zero from starts = record {
  before = [];
  fence = fence;
  behind = map (entry_of n) (s ∷ ss);
  chosen = record { whole = refl; from = from; under = lower_by key (take n s) (starts.here (omega arith)) };
}
among n key fence r (s ∷ ss) (suc i) from starts =
    further (fence, child_of n r) (map (entry_of n) (s ∷ ss)) key (child_of n (slice_index_or (s ∷ ss) i []))
    (among n key (Key (take n s)) s ss i (from_by key (take n s) starts.before.0) (record {
      within = omega (arith, starts.within);
      before = starts.before.1;
      here = λ lt. starts.here (omega (arith, lt));
    }))

-- what is behind a record above the key is above it too
next_above : (n : ℕ) (key r : List ℕ) (rs : List (List ℕ)) → key_cmp key (take n r) ≡ Less → AreRising (map (take n) (r ∷ rs))
    → IsUnderNext (map (entry_of n) rs) key
next_above n key r [] less rising = tt
next_above n key r (s ∷ ss) less rising = below_all key (take n r) (take n s) less (key_cmp_is (take n r) (take n s) ∙ rising.0)

at_place : (n : ℕ) (low : Fence) (rs : List (List ℕ)) (key : List ℕ) (place : ℕ) → StartsAt (record_passes n Above key) rs place
    → AreRising (map (take n) rs) → 0 < length rs → IsFrom low key
    → Chooses (entries_of n low rs) key (child_of n (slice_index_or rs (place - 1) []))
at_place n low [] key place starts rising some from = absurd (omega (arith, some))
at_place n low (r ∷ rs) key zero starts rising some from = record {
  before = [];
  fence = low;
  behind = map (entry_of n) rs;
  chosen = record { whole = refl; from = from; under = next_above n key r rs (lower_by key (take n r) (starts.here (omega arith))) rising };
}
at_place n low (r ∷ rs) key (suc i) starts rising some from =
    let one : suc i - 1 ≡ i = omega arith in
    subst (λ k. Chooses (entries_of n low (r ∷ rs)) key (child_of n (slice_index_or (r ∷ rs) k []))) (sym one)
    (among n key low r rs i from (record {
      within = omega (arith, starts.within);
      before = starts.before.1;
      here = λ lt. starts.here (omega (arith, lt));
    }))

pub child_chosen : (n : ℕ) (low : Fence) (rs : List (List ℕ)) (key : List ℕ) (child : ℕ) → IsChildFor n key rs child → AreRising (map (take n) rs)
    → IsFrom low key → Chooses (entries_of n low rs) key child
child_chosen n low rs key child is rising from =
    subst (λ c. Chooses (entries_of n low rs) key c) (sym is.child_is) (at_place n low rs key is.place is.starts rising is.some from)
