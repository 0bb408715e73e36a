-- Lists of which one place is set.
use Rattle.std.proofs.Common.{◌≡◌, ◌≢◌, ℕ, zero, suc, ◌<◌, List, [], ◌∷◌, length, Some, refl, ap, ◌∙◌, arith}
use Rattle.std.specs.Prelude.{slice_get, slice_set}
use Rattle.std.proofs.Math.ListN.{get_or}
use Rattle.std.proofs.lemmas.Option.{get_or_from_slice_get}
use Rattle.std.proofs.lemmas.List.{set-get_or}

pub get_set_here : {X : Type 0} (xs : List X) (i : ℕ) (x : X) → i < length xs → slice_get (slice_set xs i x) i ≡ Some x
get_set_here [] i x within = absurd (omega arith)
get_set_here (y ∷ xs) zero x within = refl
get_set_here (y ∷ xs) (suc i) x within = get_set_here xs i x (omega arith)

pub get_set_elsewhere : {X : Type 0} (xs : List X) (i j : ℕ) (x : X) → j ≢ i → slice_get (slice_set xs i x) j ≡ slice_get xs j
get_set_elsewhere [] i j x other = refl
get_set_elsewhere (y ∷ xs) zero zero x other = absurd (other refl)
get_set_elsewhere (y ∷ xs) zero (suc j) x other = refl
get_set_elsewhere (y ∷ xs) (suc i) zero x other = refl
get_set_elsewhere (y ∷ xs) (suc i) (suc j) x other = get_set_elsewhere xs i j x (λ same. other (ap suc same))

-- what was read of a place is what stands there
pub element : {X : Type 0} (xs : List X) (i : ℕ) (x read : X) → slice_get xs i ≡ Some x → read ≡ get_or xs i read → read ≡ x
element xs i x read there is = is ∙ get_or_from_slice_get xs i x read there

-- what was read of a place, put there again, changes nothing
pub set_same : {X : Type 0} (xs : List X) (i : ℕ) (read : X) → read ≡ get_or xs i read → slice_set xs i read ≡ xs
set_same xs i read is = ap (slice_set xs i) is ∙ set-get_or xs i read
