-- Numbers in two's complement, and raised as keys have them.
use Rattle.std.proofs.Common.{◌≡◌, ℕ, ◌+◌, ◌%◌, ◌^◌, ◌<◌, arith}
use Rattle.std.specs.Prelude.{ℤ, pos, negsuc, FitsSigned}
use Rattle.std.specs.Int.{w64, cast_unsigned}
use Rattle.key_codec.specs.Keys.{raised}
use Rattle.key_codec.specs.Numbers.{u64_bytes}
use Rattle.key_codec.proofs.Once.{same_u64}

of_z_fits : (n : ℤ) → FitsSigned w64 n → cast_unsigned w64 n < 2 ^ 64
of_z_fits (pos n) fits = omega (arith, fits.sfits)
of_z_fits (negsuc n) fits = omega arith

raised_is : (n : ℤ) (m : ℕ) → FitsSigned w64 n → m ≡ cast_unsigned w64 n → (m + 2 ^ 63) % 2 ^ 64 ≡ raised n
raised_is (pos n) m fits is = omega (arith, is, fits.sfits)
raised_is (negsuc n) m fits is = omega (arith, is, fits.sfits)

-- the number that stands there, raised
pub raised_there : (n : ℤ) (m : ℕ) → m < 2 ^ 64 → FitsSigned w64 n → u64_bytes m ≡ u64_bytes (cast_unsigned w64 n) → (m + 2 ^ 63) % 2 ^ 64 ≡ raised n
raised_there n m below fits is = raised_is n m fits (same_u64 m (cast_unsigned w64 n) below (of_z_fits n fits) is)
