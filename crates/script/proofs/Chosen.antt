-- What follows from a word that stands in front, and from one that doesn't.
-- Of what is read by words in turn.
use Rattle.std.proofs.Common.{◌≡◌, ℕ, List, Option, Some, None, Bool, true, false, refl}
use Rattle.std.specs.Prelude.{if◌then◌else◌}

pub stands : {A : Type 0} (t : Bool) (d rest : List ℕ) (one : List ℕ → A) (other : A) → Some rest ≡ (if t then Some d else None)
    → (if t then one d else other) ≡ one rest
stands true d rest one other e = cc
stands false d rest one other e = absurd (cc)

pub fails : {A : Type 0} (t : Bool) (d : List ℕ) (one : List ℕ → A) (other : A) → None ≡ (if t then Some d else None) → (if t then one d else other) ≡ other
fails true d one other e = absurd (cc)
fails false d one other e = refl
