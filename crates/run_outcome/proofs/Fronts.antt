-- Fronts of a list, one element after another.
use Rattle.std.proofs.Common.{◌≡◌, ◌∙◌, ap, ℕ, ◌+◌, ◌<◌, List, [], ◌∷◌, ◌++◌, length, take, get_or}
use Rattle.std.proofs.Math.Seq.{drop-cons, take-add}

-- one more
pub one_more : {X : Type 0} (n : ℕ) (list : List X) (d : X) → n < length list → take (n + 1) list ≡ take n list ++ get_or list n d ∷ []
one_more n list d h = take-add n 1 list ∙ ap (λ rest. take n list ++ take 1 rest) (drop-cons list n d h)
