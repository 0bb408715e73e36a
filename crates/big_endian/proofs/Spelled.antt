-- The number that byteorder reads is the one of std.
use Rattle.std.proofs.Common.{◌≡◌, ℕ, List, take, sym, ◌∙◌, arith}
use Rattle.std.specs.Int.{w16, w32, w64, from_be_bytes}
use Rattle.byteorder.specs.Endian.{big_number}

pub two : (bytes : List ℕ) → big_number 2 bytes ≡ from_be_bytes w16 (take 2 bytes)
two bytes = grind arith

pub four : (bytes : List ℕ) → big_number 4 bytes ≡ from_be_bytes w32 (take 4 bytes)
four bytes = grind arith

pub eight : (bytes : List ℕ) → big_number 8 bytes ≡ from_be_bytes w64 (take 8 bytes)
eight bytes = grind arith
