-- How long spelled numbers are.
use Rattle.std.proofs.Common.{◌≡◌, ℕ, ◌+◌, ◌≤◌, ◌<◌, List, ◌∷◌, [], ◌++◌, length, take, get_or, refl, arith, length-append}
use Rattle.schema_codec.specs.Numbers.{u16_bytes, u32_bytes, u64_bytes}

pub length-u16 : (n : ℕ) → length (u16_bytes n) ≡ 2
unfolding u16_bytes
length-u16 n = refl

pub length-u32 : (n : ℕ) → length (u32_bytes n) ≡ 4
unfolding u32_bytes
length-u32 n = refl

pub length-u64 : (n : ℕ) → length (u64_bytes n) ≡ 8
unfolding u64_bytes
length-u64 n = refl

pub ruleset lengths = (length-u16, length-u32, length-u64, length-append)
