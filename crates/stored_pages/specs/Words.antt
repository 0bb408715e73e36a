-- Numbers in the bytes of a page, and those in front of each page. All numbers are big-endian.
use Rattle.std.specs.Prelude.{ℕ, List, take, drop}
use Rattle.std.specs.Int.{w16, w32, w64, from_be_bytes}

unfoldable pub u16_at : ℕ → List ℕ → ℕ
u16_at at bytes = from_be_bytes w16 (take 2 (drop at bytes))

unfoldable pub u32_at : ℕ → List ℕ → ℕ
u32_at at bytes = from_be_bytes w32 (take 4 (drop at bytes))

unfoldable pub u64_at : ℕ → List ℕ → ℕ
u64_at at bytes = from_be_bytes w64 (take 8 (drop at bytes))

abbrev pub number_of : List ℕ → ℕ
number_of bytes = u32_at 8 bytes

-- the LSN of the last group that changed the page
abbrev pub lsn_of : List ℕ → ℕ
lsn_of bytes = u64_at 12 bytes
