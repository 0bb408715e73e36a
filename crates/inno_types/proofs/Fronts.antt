-- Two lists that are alike at the front are in the order of what is behind.
use Rattle.std.proofs.Common.{◌≡◌, ℕ, zero, suc, ◌+◌, ◌≤◌, List, [], ◌∷◌, ◌++◌, length, take, drop, refl, sym, ap, ◌∙◌, subst, arith, rules}
use Rattle.std.specs.Ordering.{nat_cmp}
use Rattle.std.specs.Cmp.Lexicographic.{slice_cmp}
use Rattle.std.specs.declared.cmp.Ordering.{Ordering}
use Rattle.std.specs.declared.cmp.Ordering.TheVariants.{Equal}

same : (x : ℕ) → nat_cmp x x ≡ Equal
same x = search (arith, rules)

first : (x y : ℕ) (xs ys : List ℕ) → x ∷ xs ≡ y ∷ ys → x ≡ y
first x y xs ys e = cc

rest : (x y : ℕ) (xs ys : List ℕ) → x ∷ xs ≡ y ∷ ys → xs ≡ ys
rest x y xs ys e = cc

pub behind_alike : (n : ℕ) (a b : List ℕ) → take n a ≡ take n b → slice_cmp nat_cmp (drop n a) (drop n b) ≡ slice_cmp nat_cmp a b
behind_alike zero a b alike = refl
behind_alike (suc n) [] [] alike = refl
behind_alike (suc n) [] (y ∷ b) alike = absurd (cc)
behind_alike (suc n) (x ∷ a) [] alike = absurd (cc)
behind_alike (suc n) (x ∷ a) (y ∷ b) alike =
    let one : x ≡ y = first x y (take n a) (take n b) alike in
    let further = behind_alike n a b (rest x y (take n a) (take n b) alike) in
    further ∙ (rw one (rw (same y) refl))
