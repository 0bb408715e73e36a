-- Keys that rise one by one are pairs that rise.
use Rattle.std.proofs.Common.{◌≡◌, ℕ, List, [], ◌∷◌, take, map, ◌∙◌}
use Rattle.std.specs.declared.cmp.Ordering.TheVariants.{Less}
use Rattle.std.specs.List.{AllByRecursion}
use Rattle.entries.specs.Pairs.{Pair, key_cmp, AreRising}
use Rattle.entries.proofs.Order.{key_cmp_is}
use Rattle.entries.proofs.Edits.{all_above}
use Rattle.page_format.specs.Shape.{AreRising as RiseOneByOne}
use Rattle.law_flat_tree.specs.Pages.{pair_of}

first_above : (n : ℕ) (r : List ℕ) (rs : List (List ℕ)) → RiseOneByOne (take n r ∷ map (take n) rs) → AreRising (map (pair_of n) rs)
    → AllByRecursion (λ (later : Pair). key_cmp (take n r) later.0 ≡ Less) (map (pair_of n) rs)
first_above n r [] one rest = tt
first_above n r (s ∷ ss) one rest =
    let less : key_cmp (take n r) (take n s) ≡ Less = key_cmp_is (take n r) (take n s) ∙ one.0 in
    (less, all_above (take n r) (take n s) (map (pair_of n) ss) less rest.0)

pub rising_pairs : (n : ℕ) (rs : List (List ℕ)) → RiseOneByOne (map (take n) rs) → AreRising (map (pair_of n) rs)
rising_pairs n [] one = tt
rising_pairs n (r ∷ []) one = (tt, tt)
rising_pairs n (r ∷ s ∷ ss) one =
    let rest = rising_pairs n (s ∷ ss) one.1 in
    (first_above n r (s ∷ ss) one rest, rest)
