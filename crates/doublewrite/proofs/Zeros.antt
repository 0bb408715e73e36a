-- Zeros don't pass their sum: it stays odd.
use Rattle.std.proofs.Common.{◌≡◌, ℕ, zero, suc, ◌+◌, ◌-◌, ◌*◌, ◌/◌, ◌%◌, ◌^◌, ◌<◌, ◌≤◌, List, length, take, drop, replicate, get_or, refl, sym, ◌∙◌, ap, subst, arith}
use Rattle.std.specs.Prelude.{fold}
use Rattle.std.specs.Int.{w64, from_be_bytes}
use Rattle.std.proofs.lemmas.List.{take-replicate, drop-replicate, get_or-replicate, length-replicate, ext_get_or}
use lib.Bits.{xor_zero_r}
use Rattle.sum64.specs.Fnv.{fnv_step, fnv_of}
use Rattle.store_api.specs.Areas.{PassesSum}

abbrev IsOdd : ℕ → Type 0
IsOdd n = n % 2 ≡ 1

odd_rest : (m y q : ℕ) → y + 2 ^ 64 * q ≡ m → IsOdd m → IsOdd y
odd_rest m y q is odd = omega (arith, is, odd)

odd_times : (s : ℕ) → IsOdd s → IsOdd (s * 1099511628211)
odd_times s odd = omega (arith, odd)

odd_mod : (m : ℕ) → IsOdd m → IsOdd (m % 2 ^ 64)
odd_mod m odd = odd_rest m (m % 2 ^ 64) (m / 2 ^ 64) (omega arith) odd

odd_step : (s : ℕ) → IsOdd s → IsOdd (fnv_step s 0)
odd_step s odd =
    subst (λ (n : ℕ). IsOdd ((n * 1099511628211) % 2 ^ 64)) (sym (xor_zero_r s)) (odd_mod (s * 1099511628211) (odd_times s odd))

odd_sum : (n s : ℕ) → IsOdd s → IsOdd (fold fnv_step s (replicate n 0))
odd_sum zero s odd = odd
odd_sum (suc n) s odd = odd_sum n (fnv_step s 0) (odd_step s odd)

odd_fnv : (n : ℕ) → IsOdd (fnv_of (replicate n 0))
unfolding fnv_of
odd_fnv n = odd_sum n 14695981039346656037 refl

front_zero : (n : ℕ) → 8 ≤ n → from_be_bytes w64 (take 8 (replicate n 0)) ≡ 0
front_zero n some = ap (from_be_bytes w64) (take-replicate 8 n 0 some)

odd_zero : IsOdd 0 → ⊥
odd_zero odd = omega (arith, odd)

zeros_fail : (n : ℕ) → 8 ≤ n → PassesSum (replicate n 0) → ⊥
zeros_fail n some passes =
    let sum : fnv_of (drop 8 (replicate n 0)) ≡ 0 = sym passes ∙ front_zero n some in
    let odd : IsOdd (fnv_of (drop 8 (replicate n 0))) = subst (λ (l : List ℕ). IsOdd (fnv_of l)) (sym (drop-replicate 8 n 0)) (odd_fnv (n - 8)) in
    odd_zero (subst IsOdd sum odd)

-- a page of zeros
pub blank_fails : (bytes : List ℕ) → length bytes ≡ 4096 → ((i : ℕ) → i < 4096 → get_or bytes i 0 ≡ 0) → PassesSum bytes → ⊥
blank_fails bytes size each passes =
    let n = length bytes in
    let blank : bytes ≡ replicate n 0 =
    ext_get_or 0 bytes (replicate n 0) (sym (length-replicate n 0)) (λ i below. each i (omega (arith, below, size)) ∙ sym (get_or-replicate n i 0 0 below)) in
    zeros_fail n (omega (arith, size)) (subst PassesSum blank passes)
