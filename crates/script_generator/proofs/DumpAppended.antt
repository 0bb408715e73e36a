-- Pieces that were put at the end of a text one after another.
use Rattle.std.proofs.Common.{◌≡◌, ◌∙◌, ap, ℕ, List, ◌++◌, append_assoc}

pub two : (old a b x y : List ℕ) → x ≡ old ++ a → y ≡ x ++ b → y ≡ old ++ (a ++ b)
two old a b x y first second = second ∙ ap (λ w. w ++ b) first ∙ append_assoc old a b

pub three : (old a b c x y z : List ℕ) → x ≡ old ++ a → y ≡ x ++ b → z ≡ y ++ c → z ≡ old ++ (a ++ (b ++ c))
three old a b c x y z first second third = two old a (b ++ c) x z first (two x b c y z second third)
