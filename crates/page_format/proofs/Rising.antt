-- A walk over records of one size that tells whether they rise.
use Rattle.std.proofs.Common.{◌≡◌, ℕ, zero, suc, ◌+◌, ◌-◌, ◌*◌, ◌≤◌, List, length, take, drop, sym, subst, arith}
use Rattle.std.specs.declared.cmp.Ordering.TheVariants.{Less}
use Rattle.std.specs.Ordering.{nat_cmp}
use Rattle.std.specs.Cmp.Lexicographic.{slice_cmp}
use Rattle.std.proofs.Math.Nat.{mul-le-mul_right}
use Rattle.page_format.specs.Words.{pieces}
use Rattle.page_format.specs.Shape.{AreRising}

pub room_behind : (left width len : ℕ) → 1 ≤ left → left * width ≤ len → (left - 1) * width ≤ len - width
room_behind (suc left) width len one fits = let less : suc left - 1 ≡ left = omega arith in rw less (omega (arith, fits))
room_behind zero width len one fits = absurd (omega (arith, one))

-- What is left rises exactly where the whole does.
pub record Tells (width count : ℕ) (records : List ℕ) (left : ℕ) (rest : List ℕ) : Type 0 where
  pub whole : AreRising (pieces width left rest) → AreRising (pieces width count records)
  pub part : AreRising (pieces width count records) → AreRising (pieces width left rest)
  pub room : left * width ≤ length rest

step : (width count : ℕ) (records : List ℕ) (left : ℕ) (rest others : List ℕ) → Tells width count records (suc (suc left)) rest → others ≡ drop width rest → slice_cmp nat_cmp (take width rest) (take width others) ≡ Less → (suc left) * width ≤ length others
    → Tells width count records (suc left) others
step width count records left rest others tells is less room =
    let below : slice_cmp nat_cmp (take width rest) (take width (drop width rest)) ≡ Less = rw (← is) less in
    record {
      whole = λ r. tells.whole (below, subst (λ (l : List ℕ). AreRising (pieces width (suc left) l)) is r);
      part = λ r. subst (λ (l : List ℕ). AreRising (pieces width (suc left) l)) (sym is) ((tells.part r).1);
      room = room;
    }

pub Tells-next : (width count : ℕ) (records : List ℕ) (left : ℕ) (rest others : List ℕ) → 2 ≤ left → Tells width count records left rest → others ≡ drop width rest → slice_cmp nat_cmp (take width rest) (take width others) ≡ Less → length others ≡ length rest - width
    → Tells width count records (left - 1) others
Tells-next width count records zero rest others two tells is less len = absurd (omega (arith, two))
Tells-next width count records (suc zero) rest others two tells is less len = absurd (omega (arith, two))
Tells-next width count records (suc (suc left)) rest others two tells is less len =
    let one : suc (suc left) - 1 ≡ suc left = omega arith in
    rw one (step width count records left rest others tells is less (omega (arith, room_behind (suc (suc left)) width (length rest) (omega arith) tells.room, len, one)))

-- a pair that doesn't rise
pub falls : (width count : ℕ) (records : List ℕ) (left : ℕ) (rest others : List ℕ) → 2 ≤ left → Tells width count records left rest → others ≡ drop width rest → (slice_cmp nat_cmp (take width rest) (take width others) ≡ Less → ⊥) → AreRising (pieces width count records) → ⊥
falls width count records zero rest others two tells is other r = absurd (omega (arith, two))
falls width count records (suc zero) rest others two tells is other r = absurd (omega (arith, two))
falls width count records (suc (suc left)) rest others two tells is other r = other (rw is ((tells.part r).0))
