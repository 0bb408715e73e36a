-- A count is the same from the other end.
use Rattle.std.proofs.Common.{◌≡◌, ◌∙◌, ap, ℕ, Bool, cond, List, [], ◌∷◌, refl, arith, reverse}
use Rattle.std.specs.List.{count_by, sum_by}
use Rattle.std.proofs.lemmas.List.{reverse-append}
use Rattle.std.proofs.lemmas.List.Sums.{sum_by-append}

sum-reverse : {X : Type 0} (f : X → ℕ) (xs : List X) → sum_by f (reverse xs) ≡ sum_by f xs
sum-reverse f [] = refl
sum-reverse f (x ∷ xs) =
    ap (sum_by f) (reverse-append (x ∷ []) xs)
    ∙ sum_by-append f (reverse xs) (x ∷ [])
    ∙ omega (arith, sum-reverse f xs, sum_by-append f (x ∷ []) xs)

pub count-reverse : {X : Type 0} (p : X → Bool) (xs : List X) → count_by p (reverse xs) ≡ count_by p xs
count-reverse p xs = sum-reverse (λ y. cond (p y) 1 0) xs
