-- Where a key stands among pairs, or would stand.
use Rattle.std.specs.Prelude.{◌≡◌, ℕ, ◌<◌, ◌≤◌, true, zero, suc, List, [], ◌∷◌, length, None, is_some}
use Rattle.std.specs.declared.cmp.Ordering.TheVariants.{Less, Equal, Greater}
use Rattle.entries.specs.Pairs.{Pair, key_cmp, value_of}

-- the key stands at this place, and lower keys before it
abbrev pub StandsAt : List ℕ → List Pair → ℕ → Type 0
StandsAt key [] at = ⊥
StandsAt key (pair ∷ pairs) zero = key_cmp key pair.0 ≡ Equal
StandsAt key (pair ∷ pairs) (suc at) = (key_cmp key pair.0 ≡ Greater) × StandsAt key pairs at

-- the key would stand at this place: lower keys before it, and a higher one there
abbrev pub IsGapAt : List ℕ → List Pair → ℕ → Type 0
IsGapAt key [] zero = Unit {0}
IsGapAt key [] (suc at) = ⊥
IsGapAt key (pair ∷ pairs) zero = key_cmp key pair.0 ≡ Less
IsGapAt key (pair ∷ pairs) (suc at) = (key_cmp key pair.0 ≡ Greater) × IsGapAt key pairs at

pub record IsFoundAt (key : List ℕ) (pairs : List Pair) (at : ℕ) : Type 0 where
  pub stands : StandsAt key pairs at
  pub in_range : at < length pairs
  pub there : is_some (value_of key pairs) ≡ true
