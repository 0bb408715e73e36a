-- The order of lists byte by byte: of lists with equally long fronts, and of numbers written highest byte first.
use Rattle.std.proofs.Common.{◌≡◌, inl, inr, ℕ, zero, suc, ◌+◌, ◌*◌, ◌%◌, ◌^◌, ◌<◌, ◌≤◌, List, [], ◌∷◌, ◌++◌, length, refl, sym, ap, ◌∙◌, lit<, arith}
use Rattle.std.specs.Int.{byte_at, bytes_high_first}
use Rattle.std.specs.declared.cmp.Ordering.{Ordering}
use Rattle.std.specs.declared.cmp.Ordering.TheVariants.{Less, Equal, Greater}
use Rattle.std.specs.Ordering.{nat_cmp, ordering_then}
use Rattle.std.specs.Cmp.Lexicographic.{slice_cmp}
use Rattle.std.proofs.lemmas.Bool.{cases_order}
use Rattle.std.proofs.lemmas.Bool.Decides.{nat_tests}
use Rattle.std.proofs.lemmas.Cmp.{tied_itself, nat_list_cmp_total}
use Rattle.std.proofs.lemmas.Nat.{mod_below}
use Rattle.std.proofs.Math.Nat.{mul-le-mul_right, mul_comm, pow-suc}
use Rattle.std.proofs.Math.Arith.{mod-mul}

pub then_assoc : (o p q : Ordering) → ordering_then (ordering_then o p) q ≡ ordering_then o (ordering_then p q)
then_assoc Less p q = refl
then_assoc Equal p q = refl
then_assoc Greater p q = refl

pub then_equal : (o : Ordering) → ordering_then o Equal ≡ o
then_equal Less = refl
then_equal Equal = refl
then_equal Greater = refl

pub itself : (xs : List ℕ) → slice_cmp nat_cmp xs xs ≡ Equal
itself xs = tied_itself nat_list_cmp_total xs

-- the fronts decide, and the rests where these are equal
pub slice_cmp-append : (xs ys p q : List ℕ) → length xs ≡ length ys
    → slice_cmp nat_cmp (xs ++ p) (ys ++ q) ≡ ordering_then (slice_cmp nat_cmp xs ys) (slice_cmp nat_cmp p q)
slice_cmp-append [] [] p q e = refl
slice_cmp-append [] (y ∷ ys) p q e = absurd (omega (arith, e))
slice_cmp-append (x ∷ xs) [] p q e = absurd (omega (arith, e))
slice_cmp-append (x ∷ xs) (y ∷ ys) p q e =
    ap (ordering_then (nat_cmp x y)) (slice_cmp-append xs ys p q (omega (arith, e)))
    ∙ sym (then_assoc (nat_cmp x y) (slice_cmp nat_cmp xs ys) (slice_cmp nat_cmp p q))

-- the higher digit decides, and the lower where these are equal
digits : (a b r s base : ℕ) → r < base → s < base → ordering_then (nat_cmp a b) (nat_cmp r s) ≡ nat_cmp (a * base + r) (b * base + s)
digits a b r s base r_below s_below = elim (cases_order a b) [
  | inl same ↦ grind (arith, nat_tests, same, ap (λ (n : ℕ). n * base) same)
  | inr other ↦ elim other [
    | inl below ↦ let more : (a + 1) * base ≤ b * base = mul-le-mul_right base (omega (arith, below)) in grind (arith, nat_tests, below, more)
    | inr above ↦ let more : (b + 1) * base ≤ a * base = mul-le-mul_right base (omega (arith, above)) in grind (arith, nat_tests, above, more)
  ]
]

mod_one : (n : ℕ) → n % 1 ≡ 0
mod_one n = omega arith

pow-pos : (k : ℕ) → 0 < 256 ^ k
pow-pos zero = lit< tt
pow-pos (suc k) = rw pow-suc (omega (arith, pow-pos k))

highest : (k n : ℕ) → n % 256 ^ suc k ≡ byte_at k n * 256 ^ k + n % 256 ^ k
highest zero n = omega arith
highest (suc k) n =
    let unit = 256 ^ suc k in
    let wider : 256 ^ suc (suc k) ≡ 256 * unit = pow-suc 256 (suc k) ∙ mul_comm unit 256 in
    let some : 0 < unit = pow-pos (suc k) in
    rw (wider, mod-mul n {m = 256} {c = unit} (omega arith) some) (omega arith)

pub bytes_order : (k m n : ℕ) → slice_cmp nat_cmp (bytes_high_first k m) (bytes_high_first k n) ≡ nat_cmp (m % 256 ^ k) (n % 256 ^ k)
bytes_order zero m n = sym (ap (nat_cmp (m % 1)) (mod_one n) ∙ ap (λ (i : ℕ). nat_cmp i 0) (mod_one m))
bytes_order (suc k) m n =
    let base_pos : 0 < 256 ^ k = pow-pos k in
    ap (ordering_then (nat_cmp (byte_at k m) (byte_at k n))) (bytes_order k m n)
    ∙ digits (byte_at k m) (byte_at k n) (m % 256 ^ k) (n % 256 ^ k) (256 ^ k) (mod_below m (256 ^ k) base_pos) (mod_below n (256 ^ k) base_pos)
    ∙ ap (nat_cmp (byte_at k m * 256 ^ k + m % 256 ^ k)) (sym (highest k n)) ∙ ap (λ (i : ℕ). nat_cmp i (n % 256 ^ suc k)) (sym (highest k m))
