-- Padded texts with their lengths behind them stand in the order of the texts.
use Rattle.std.proofs.Common.{◌≡◌, ℕ, zero, suc, ◌+◌, ◌-◌, ◌<◌, ◌≤◌, List, [], ◌∷◌, ◌++◌, length, ap, arith}
use Rattle.std.specs.Prelude.{replicate}
use Rattle.std.specs.declared.cmp.Ordering.{Ordering}
use Rattle.std.specs.declared.cmp.Ordering.TheVariants.{Less, Greater}
use Rattle.std.specs.Ordering.{nat_cmp, ordering_then}
use Rattle.std.specs.Cmp.Lexicographic.{slice_cmp}
use Rattle.std.proofs.lemmas.Bool.Decides.{nat_tests}
use Rattle.key_codec.specs.Keys.{padded}
use Rattle.inno_types.proofs.ByteOrder.{itself}
use Rattle.key_codec.proofs.Lengths.{length-padded}

above_zero : (z : ℕ) → nat_cmp 0 (suc z) ≡ Less
above_zero z = grind (arith, nat_tests)

not_zero : (z : ℕ) → nat_cmp (suc z) 0 ≡ Greater
not_zero z = grind (arith, nat_tests)

-- zeros and a length stand before any text as long and a greater length, and these behind them
zeros_before : (n k m : ℕ) (zs : List ℕ) → length zs ≡ n → k < m → slice_cmp nat_cmp (replicate n 0 ++ k ∷ []) (zs ++ m ∷ []) ≡ Less
zeros_before zero k m [] e below = grind (arith, nat_tests)
zeros_before zero k m (z ∷ zs) e below = absurd (omega (arith, e))
zeros_before (suc n) k m [] e below = absurd (omega (arith, e))
zeros_before (suc n) k m (zero ∷ zs) e below = zeros_before n k m zs (omega (arith, e)) below
zeros_before (suc n) k m (suc z ∷ zs) e below = ap (λ (o : Ordering). ordering_then o (slice_cmp nat_cmp (replicate n 0 ++ k ∷ []) (zs ++ m ∷ []))) (above_zero z)

zeros_behind : (n k m : ℕ) (zs : List ℕ) → length zs ≡ n → k < m → slice_cmp nat_cmp (zs ++ m ∷ []) (replicate n 0 ++ k ∷ []) ≡ Greater
zeros_behind zero k m [] e below = grind (arith, nat_tests)
zeros_behind zero k m (z ∷ zs) e below = absurd (omega (arith, e))
zeros_behind (suc n) k m [] e below = absurd (omega (arith, e))
zeros_behind (suc n) k m (zero ∷ zs) e below = zeros_behind n k m zs (omega (arith, e)) below
zeros_behind (suc n) k m (suc z ∷ zs) e below = ap (λ (o : Ordering). ordering_then o (slice_cmp nat_cmp (zs ++ m ∷ []) (replicate n 0 ++ k ∷ []))) (not_zero z)

-- k is the length of a front that both share
texts : (size k : ℕ) (a b : List ℕ) → length a ≤ size → length b ≤ size → slice_cmp nat_cmp (padded size a ++ (k + length a) ∷ []) (padded size b ++ (k + length b) ∷ []) ≡ slice_cmp nat_cmp a b
texts size k [] [] a_fits b_fits = itself (replicate (size - 0) 0 ++ (k + 0) ∷ [])
texts size k [] (y ∷ ys) a_fits b_fits =
    zeros_before (size - 0) (k + 0) (k + suc (length ys)) (padded size (y ∷ ys)) (omega (arith, length-padded size (y ∷ ys) b_fits)) (omega arith)
texts size k (x ∷ xs) [] a_fits b_fits =
    zeros_behind (size - 0) (k + 0) (k + suc (length xs)) (padded size (x ∷ xs)) (omega (arith, length-padded size (x ∷ xs) a_fits)) (omega arith)
texts zero k (x ∷ xs) (y ∷ ys) a_fits b_fits = absurd (omega (arith, a_fits))
texts (suc size) k (x ∷ xs) (y ∷ ys) a_fits b_fits =
    let left : suc size - suc (length xs) ≡ size - length xs = omega arith in
    let right : suc size - suc (length ys) ≡ size - length ys = omega arith in
    let xs_length : k + suc (length xs) ≡ suc k + length xs = omega arith in
    let ys_length : k + suc (length ys) ≡ suc k + length ys = omega arith in
    ap (ordering_then (nat_cmp x y)) (rw (left, right, xs_length, ys_length) (texts size (suc k) xs ys (omega (arith, a_fits)) (omega (arith, b_fits))))

pub padded-order : (size : ℕ) (a b : List ℕ) → length a ≤ size → length b ≤ size → slice_cmp nat_cmp (padded size a ++ length a ∷ []) (padded size b ++ length b ∷ []) ≡ slice_cmp nat_cmp a b
padded-order size a b a_fits b_fits =
    let a_length : 0 + length a ≡ length a = omega arith in
    let b_length : 0 + length b ≡ length b = omega arith in
    rw (a_length, b_length) at (texts size 0 a b a_fits b_fits)
