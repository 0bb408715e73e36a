-- What held at the moments since an item of a session was started.
use Rattle.std.specs.Prelude.{◌≡◌, ◌⊎◌, ℕ, List, [], ◌∷◌, ◌==◌, Bool, false}
use Rattle.inno_model.specs.declared.event.Event.{Event}
use Rattle.inno_model.specs.declared.event.Event.TheVariants.{Started}

-- the session's item starts with this entry
abbrev pub starts : ℕ → Event → Bool
starts s (Started t j item) = t == s
starts s other = false

-- At some moment since the session's item was started P held.
abbrev pub Sometime : (List Event → Type 0) → ℕ → List Event → Type 0
Sometime P s [] = ⊥
Sometime P s (e ∷ past) = P (e ∷ past) ⊎ ((starts s e ≡ false) × Sometime P s past)

-- At each moment since then P held.
abbrev pub Throughout : (List Event → Type 0) → ℕ → List Event → Type 0
Throughout P s [] = Unit {0}
Throughout P s (e ∷ past) = P (e ∷ past) × (starts s e ≡ false → Throughout P s past)
