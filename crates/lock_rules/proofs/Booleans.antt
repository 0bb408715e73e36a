-- What tests joined by "and", "or" and "not" say of one another.
use Rattle.std.proofs.Common.{◌≡◌, Bool, true, false, ◌⊎◌, inl, inr, refl}
use Rattle.std.specs.Prelude.{◌&&◌, ◌||◌, not}

pub first : (a b : Bool) → (a && b) ≡ true → a ≡ true
first true b h = refl
first false b h = h

pub second : (a b : Bool) → (a && b) ≡ true → b ≡ true
second true b h = h
second false b h = cc

pub both : (a b : Bool) → a ≡ true → b ≡ true → (a && b) ≡ true
both true b h g = g
both false b h g = cc

pub and_false : (a : Bool) → (a && false) ≡ false
and_false true = refl
and_false false = refl

pub or_true : (a : Bool) → (a || true) ≡ true
or_true true = refl
or_true false = refl

pub or_left : (a b : Bool) → a ≡ true → (a || b) ≡ true
or_left true b h = refl
or_left false b h = cc

pub or_right : (a b : Bool) → b ≡ true → (a || b) ≡ true
or_right true b h = refl
or_right false b h = h

pub or_cases : (a b : Bool) → (a || b) ≡ true → (a ≡ true) ⊎ (b ≡ true)
or_cases true b h = inl refl
or_cases false b h = inr h

pub or_false : (a b : Bool) → a ≡ false → b ≡ false → (a || b) ≡ false
or_false true b p q = cc
or_false false b p q = q

pub or_false-left : (a b : Bool) → (a || b) ≡ false → a ≡ false
or_false-left true b h = cc
or_false-left false b h = refl

pub or_false-right : (a b : Bool) → (a || b) ≡ false → b ≡ false
or_false-right true b h = cc
or_false-right false b h = h

pub implies : (a b : Bool) → (not a || b) ≡ true → a ≡ true → b ≡ true
implies true b h is = h
implies false b h is = cc

pub implied : (a b : Bool) → (a ≡ true → b ≡ true) → (not a || b) ≡ true
implied true b f = f refl
implied false b f = refl

pub true_false : (a : Bool) → a ≡ true → a ≡ false → ⊥
true_false true h g = cc
true_false false h g = cc

-- the two cases of a test, each with what it says
pub split : (b : Bool) {A : Type 0} → (b ≡ true → A) → (b ≡ false → A) → A
split true f g = f refl
split false f g = g refl
