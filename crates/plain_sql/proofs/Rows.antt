-- Rows of different lengths differ.
use Rattle.std.proofs.Common.{◌≡◌, ◌≢◌, ap, refl, Bool, true, false, List, [], ◌∷◌, length, arith}
use Rattle.std.specs.Prelude.{◌&&◌}
use Rattle.inno_types.specs.declared.value.Value.{Value}
use Rattle.inno_db.specs.Outcome.{is_same_value, is_same_row}

and_false : (b : Bool) → (b && false) ≡ false
and_false true = refl
and_false false = refl

pub different_lengths : (a b : List Value) → length a ≢ length b → false ≡ is_same_row a b
different_lengths [] [] apart = absurd (apart refl)
different_lengths [] (y ∷ b) apart = refl
different_lengths (x ∷ a) [] apart = refl
different_lengths (x ∷ a) (y ∷ b) apart =
    let shorter : length a ≢ length b = omega arith in
    cc (and_false (is_same_value x y), ap (λ r. is_same_value x y && r) (different_lengths a b shorter))
