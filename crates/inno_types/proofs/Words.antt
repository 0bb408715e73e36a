-- Eight bytes as a number are in the order of the bytes.
use Rattle.std.proofs.Common.{◌≡◌, ◌≢◌, ℕ, zero, suc, ◌+◌, ◌*◌, ◌/◌, ◌%◌, ◌^◌, ◌<◌, ◌≤◌, List, [], ◌∷◌, ◌++◌}
use Rattle.std.proofs.Common.{length, take, drop, slice_index_or, sym, ap, ◌∙◌, subst, refl, arith}
use Rattle.std.specs.Int.{w64, to_be_bytes, from_be_bytes}
use Rattle.std.specs.declared.cmp.Ordering.{Ordering}
use Rattle.std.specs.declared.cmp.Ordering.TheVariants.{Less, Equal, Greater}
use Rattle.std.specs.Ordering.{nat_cmp, ordering_then}
use Rattle.std.specs.Cmp.Lexicographic.{slice_cmp}
use Rattle.std.specs.Simd.{first_chunks}
use Rattle.std.proofs.lemmas.Bool.Decides.{nat_tests}
use Rattle.std.proofs.lemmas.List.{drop-drop, take-append-drop}
use Rattle.inno_types.proofs.ByteOrder.{slice_cmp-append, bytes_order}
use Rattle.inno_types.proofs.Fronts.{behind_alike}

-- what numbers spell is in their order
pub spelled_order : (m n : ℕ) → m < 2 ^ 64 → n < 2 ^ 64 → slice_cmp nat_cmp (to_be_bytes w64 m) (to_be_bytes w64 n) ≡ nat_cmp m n
spelled_order m n m_fits n_fits =
    let m_is : m % 256 ^ 8 ≡ m = omega (arith, m_fits) in
    let n_is : n % 256 ^ 8 ≡ n = omega (arith, n_fits) in
    bytes_order 8 m n ∙ ap (nat_cmp (m % 256 ^ 8)) n_is ∙ ap (λ (i : ℕ). nat_cmp i n) m_is

-- a chunk is what stands at its place
pub chunk_is : (k n : ℕ) (xs : List ℕ) → k < n → slice_index_or (first_chunks 8 n xs) k [] ≡ take 8 (drop (8 * k) xs)
chunk_is k zero xs few = absurd (omega (arith, few))
chunk_is zero (suc n) xs few = refl
chunk_is (suc k) (suc n) xs few = chunk_is k n (drop 8 xs) (omega (arith, few)) ∙ ap (take 8) (drop-drop (8 * k) 8 xs ∙ ap (λ (m : ℕ). drop m xs) (omega arith))

decided : (o rest : Ordering) → o ≢ Equal → ordering_then o rest ≡ o
decided Less rest other = refl
decided Equal rest other = absurd (other refl)
decided Greater rest other = refl

nat_cmp_same : (x y : ℕ) → nat_cmp x y ≡ Equal → x ≡ y
nat_cmp_same x y same = grind (arith, nat_tests, same)

apart : (x y : ℕ) → x ≢ y → nat_cmp x y ≢ Equal
apart x y other same = other (nat_cmp_same x y same)

-- two lists that are alike up to a word, which differs, are in the order of the words as numbers
pub words_decide : (n x y : ℕ) (a b : List ℕ) → take n a ≡ take n b → to_be_bytes w64 x ≡ take 8 (drop n a) → to_be_bytes w64 y ≡ take 8 (drop n b)
    → x < 2 ^ 64 → y < 2 ^ 64 → x ≢ y → nat_cmp x y ≡ slice_cmp nat_cmp a b
words_decide n x y a b alike first second x_fits y_fits other =
    let spelled : slice_cmp nat_cmp (take 8 (drop n a)) (take 8 (drop n b)) ≡ nat_cmp x y =
    ap (λ (l : List ℕ). slice_cmp nat_cmp l (take 8 (drop n b))) (sym first)
    ∙ (ap (λ (l : List ℕ). slice_cmp nat_cmp (to_be_bytes w64 x) l) (sym second) ∙ spelled_order x y x_fits y_fits)
    in
    let long : length (take 8 (drop n a)) ≡ length (take 8 (drop n b)) =
    ap (λ (l : List ℕ). length l) (sym first) ∙ ap (λ (l : List ℕ). length l) second
    in
    sym (sym (behind_alike n a b alike)
    ∙ (ap (λ (l : List ℕ). slice_cmp nat_cmp l (drop n b)) (sym (take-append-drop 8 (drop n a)))
    ∙ (ap (λ (l : List ℕ). slice_cmp nat_cmp (take 8 (drop n a) ++ drop 8 (drop n a)) l) (sym (take-append-drop 8 (drop n b)))
    ∙ (slice_cmp-append (take 8 (drop n a)) (take 8 (drop n b)) (drop 8 (drop n a)) (drop 8 (drop n b)) long
    ∙ (ap (λ (o : Ordering). ordering_then o (slice_cmp nat_cmp (drop 8 (drop n a)) (drop 8 (drop n b)))) spelled
    ∙ decided (nat_cmp x y) (slice_cmp nat_cmp (drop 8 (drop n a)) (drop 8 (drop n b))) (apart x y other))))))
