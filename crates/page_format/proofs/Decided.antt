-- Tests that are made one after another: the last one decides.
use Rattle.std.proofs.Common.{◌≡◌, Bool, true, false, refl}
use Rattle.std.specs.Int.{from_bool}
use Rattle.page_format.specs.Changes.{mark_byte}
use Rattle.std.specs.Prelude.{MatchBool}

pub by_last : (r : Bool) (P Q : Type 0) → MatchBool r Q (Q → ⊥) → (Q → P) → (P → Q) → MatchBool r P (P → ⊥)
by_last true P Q q to from = to q
by_last false P Q q to from = λ p. q (from p)

pub mark_is : (on : Bool) → from_bool on ≡ mark_byte on
mark_is true = refl
mark_is false = refl
