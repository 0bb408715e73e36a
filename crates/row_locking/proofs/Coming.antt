-- To the first pair that a search has not passed: from which bytes it is sought, and that it is the first.
use Rattle.std.proofs.Common.{◌≡◌, ◌∙◌, refl, sym, ap, subst, ℕ, Bool, true, cond, List, [], ◌∷◌, ◌++◌, Option, None, Some, arith}
use Rattle.std.specs.Prelude.{find, IfSome, MatchOption}
use Rattle.std.specs.Ordering.{is_le, is_lt, nat_cmp, ordering_then}
use Rattle.std.specs.Cmp.Lexicographic.{slice_cmp}
use Rattle.std.proofs.lemmas.Cmp.{ranked}
use Rattle.std.specs.declared.cmp.Ordering.{Ordering}
use Rattle.std.specs.declared.cmp.Ordering.TheVariants.{Less, Equal, Greater}
use Rattle.entries.specs.{Pairs.Pair, Pairs.AreSound, Pairs.key_cmp, Pairs.first_from, Pairs.IsFirstOf, Pairs.NonePasses, Index.AreKept}
use Rattle.entries.proofs.Found.{first_is}
use Rattle.row_search.specs.declared.scan.Scan.{Scan}
use Rattle.row_locking.specs.Comes.{from_bytes, to_come, IsNextOf}

then_rest : (o a b : Ordering) → is_le a ≡ is_lt b → is_le (ordering_then o a) ≡ is_lt (ordering_then o b)
then_rest Less a b e = refl
then_rest Equal a b e = e
then_rest Greater a b e = refl

none_below : (key : List ℕ) → is_le (slice_cmp nat_cmp [] key) ≡ true
none_below [] = refl
none_below (k ∷ key) = refl

zero_first : (k : ℕ) (rest : Ordering) → is_le rest ≡ true → is_le (ordering_then (nat_cmp 0 k) rest) ≡ true
zero_first k rest is = go (nat_cmp 0 k) refl where
  go : (r : Ordering) → r ≡ nat_cmp 0 k → is_le (ordering_then r rest) ≡ true
  go Less e = refl
  go Equal e = is
  go Greater e = absurd (omega (arith, ranked 0 k Greater e))

-- a key is above another one where it is at or above that one with a zero behind it
above : (passed key : List ℕ) → is_le (slice_cmp nat_cmp (passed ++ 0 ∷ []) key) ≡ is_lt (slice_cmp nat_cmp passed key)
above [] [] = refl
above [] (k ∷ key) = zero_first k (slice_cmp nat_cmp [] key) (none_below key)
above (p ∷ passed) [] = refl
above (p ∷ passed) (k ∷ key) = then_rest (nat_cmp p k) _ _ (above passed key)

pub comes_from : (scan : Scan) (passed : Option (List ℕ)) (key : List ℕ) → is_le (key_cmp (from_bytes scan.range.low passed) key) ≡ to_come scan passed key
unfolding key_cmp
comes_from scan None key = refl
comes_from scan (Some passed) key = above passed key

find_same : (test other : Pair → Bool) → ((pair : Pair) → test pair ≡ other pair) → (pairs : List Pair) → find test pairs ≡ find other pairs
find_same test other same [] = refl
find_same test other same (pair ∷ pairs) =
    ap (λ b. cond b (Some pair) (find test pairs)) (same pair)
    ∙ ap (λ (rest : Option Pair). cond (other pair) (Some pair) rest) (find_same test other same pairs)

next_of : (passes : List ℕ → Bool) (found : Option Pair) (pairs : List Pair) → MatchOption found (NonePasses passes pairs) (IsFirstOf passes pairs)
    → IsNextOf passes found pairs
next_of passes None pairs is = is
next_of passes (Some pair) pairs is = is

-- what was found of the pairs as they were is the next one of those that are told still
pub next_told : (scan : Scan) (passed : Option (List ℕ)) (found : Option Pair) (old new : Option (List Pair))
    → IfSome old (λ pairs. first_from (from_bytes scan.range.low passed) pairs ≡ found) → AreKept old new → IfSome new AreSound
    → IfSome new (IsNextOf (to_come scan passed) found)
next_told scan passed found old None is kept sound = tt
next_told scan passed found None (Some new) is kept sound = absurd kept
next_told scan passed found (Some old) (Some new) is kept sound =
    next_of (to_come scan passed) found new
    (subst (λ (f : Option Pair). MatchOption f (NonePasses (to_come scan passed) new) (IsFirstOf (to_come scan passed) new))
    (sym (find_same (λ pair. is_le (key_cmp (from_bytes scan.range.low passed) pair.0)) (λ pair. to_come scan passed pair.0)
    (λ pair. comes_from scan passed pair.0) new) ∙ ap (first_from (from_bytes scan.range.low passed)) kept ∙ is)
    (first_is (to_come scan passed) new sound.rising))
