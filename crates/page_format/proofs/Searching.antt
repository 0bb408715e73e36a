-- A search by halves for the first record that does not begin below a key, among records that rise.
use Rattle.std.proofs.Common.{◌≡◌, ◌≢◌, ℕ, zero, suc, ◌<◌, ◌≤◌, List, [], ◌∷◌, length, take, get_or, refl, arith}
use Rattle.std.specs.declared.cmp.Ordering.{Ordering}
use Rattle.std.specs.declared.cmp.Ordering.TheVariants.{Less, Equal, Greater}
use Rattle.std.specs.Ordering.{nat_cmp, ordering_then}
use Rattle.std.specs.Cmp.Lexicographic.{slice_cmp}
use Rattle.std.specs.List.{AllByRecursion}
use Rattle.std.proofs.lemmas.Bool.Decides.{nat_tests}
use Rattle.std.proofs.lemmas.List.Elements.{All-from_recursion}
use Rattle.page_format.specs.Found.{key_cmp, AreBelow}
use Rattle.page_format.specs.Shape.{AreRising}

then_below : (a b k : ℕ) (p q r : Ordering) → (p ≡ Less → q ≡ Less → r ≡ Less) → ordering_then (nat_cmp a b) p ≡ Less → ordering_then (nat_cmp b k) q ≡ Less
    → ordering_then (nat_cmp a k) r ≡ Less
then_below a b k p q r both one other = go (nat_cmp a b) (nat_cmp b k) refl refl where
  go : (o s : Ordering) → o ≡ nat_cmp a b → s ≡ nat_cmp b k → ordering_then (nat_cmp a k) r ≡ Less
  go Less Less is also = grind (arith, nat_tests)
  go Less Equal is also = grind (arith, nat_tests)
  go Equal Less is also = grind (arith, nat_tests)
  go Equal Equal is also = grind (arith, nat_tests)
  go Greater s is also = absurd cc
  go Less Greater is also = absurd cc
  go Equal Greater is also = absurd cc

-- a record below one that begins below the key begins below it too
below_before : (key x y : List ℕ) → slice_cmp nat_cmp x y ≡ Less → key_cmp key y ≡ Less → key_cmp key x ≡ Less
below_before [] x y less below = absurd cc
below_before (k ∷ ks) [] y less below = refl
below_before (k ∷ ks) (a ∷ xs) [] less below = absurd cc
below_before (k ∷ ks) (a ∷ xs) (b ∷ ys) less below =
    then_below a b k (slice_cmp nat_cmp xs ys) (key_cmp ks ys) (key_cmp ks xs) (below_before ks xs ys) less below

up_to : (key : List ℕ) (rs : List (List ℕ)) (i : ℕ) → AreRising rs → i < length rs → key_cmp key (get_or rs i []) ≡ Less
    → AllByRecursion (λ r. key_cmp key r ≡ Less) (take (suc i) rs)
up_to key [] i rising within less = absurd (omega (arith, within))
up_to key (r ∷ rs) zero rising within less = (less, tt)
up_to key (r ∷ []) (suc i) rising within less = absurd (omega (arith, within))
up_to key (r ∷ s ∷ rs) (suc i) rising within less =
    let more = up_to key (s ∷ rs) i rising.1 (omega (arith, within)) less in
    (below_before key r s rising.0 more.0, more)

-- where a record begins below the key, so do those before it
pub below_up_to : (key : List ℕ) (rs : List (List ℕ)) (i : ℕ) → AreRising rs → i < length rs → key_cmp key (get_or rs i []) ≡ Less → AreBelow key (take (suc i) rs)
below_up_to key rs i rising within less = All-from_recursion (λ r. key_cmp key r ≡ Less) (take (suc i) rs) (up_to key rs i rising within less)

-- What halving keeps: the records before `low` begin below the key, and the one at `high` does not, where there is one.
pub record IsNarrowed (key : List ℕ) (records : List (List ℕ)) (count low high : ℕ) : Type 0 where
  pub order : low ≤ high
  pub inside : high ≤ count
  pub below : AreBelow key (take low records)
  pub next : high < count → key_cmp key (get_or records high []) ≢ Less

-- an order that is neither of the others
pub is_greater : (o : Ordering) → o ≢ Less → o ≢ Equal → o ≡ Greater
is_greater Less below same = absurd (below refl)
is_greater Equal below same = absurd (same refl)
is_greater Greater below same = refl
