-- The order of numbers written in eight bytes, the highest first.
use Rattle.std.proofs.Common.{◌≡◌, ℕ, ◌%◌, ◌^◌, ◌<◌, ap, ◌∙◌, arith}
use Rattle.std.specs.Ordering.{nat_cmp}
use Rattle.std.specs.Cmp.Lexicographic.{slice_cmp}
use Rattle.inno_types.proofs.ByteOrder.{bytes_order}
use Rattle.key_codec.specs.Numbers.{u64_bytes}

pub u64_bytes-order : (m n : ℕ) → m < 2 ^ 64 → n < 2 ^ 64 → slice_cmp nat_cmp (u64_bytes m) (u64_bytes n) ≡ nat_cmp m n
unfolding u64_bytes
u64_bytes-order m n m_fits n_fits =
    let m_is : m % 256 ^ 8 ≡ m = omega (arith, m_fits) in
    let n_is : n % 256 ^ 8 ≡ n = omega (arith, n_fits) in
    bytes_order 8 m n ∙ ap (nat_cmp (m % 256 ^ 8)) n_is ∙ ap (λ (i : ℕ). nat_cmp i n) m_is
