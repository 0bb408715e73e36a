-- Pieces that were put at the end of a list one after another.
use Rattle.std.proofs.Common.{◌≡◌, ◌∙◌, ap, List, ◌++◌, append_assoc}

pub two : {A : Type 0} (old a b x y : List A) → x ≡ old ++ a → y ≡ x ++ b → y ≡ old ++ (a ++ b)
two old a b x y first second = second ∙ ap (λ w. w ++ b) first ∙ append_assoc old a b

pub three : {A : Type 0} (old a b c x y z : List A) → x ≡ old ++ a → y ≡ x ++ b → z ≡ y ++ c → z ≡ old ++ (a ++ (b ++ c))
three old a b c x y z first second third = two old a (b ++ c) x z first (two x b c y z second third)
