-- Lists of numbers in order.
use Rattle.std.specs.Prelude.{◌≡◌, ◌<◌, ◌⊎◌, ℕ, List, ◌∷◌}

-- a list is below another where its first number that differs is the smaller one
abbrev pub IsBelow : List ℕ → List ℕ → Type 0
IsBelow (a ∷ later) (b ∷ others) = (a < b) ⊎ ((a ≡ b) × IsBelow later others)
IsBelow list other = ⊥
