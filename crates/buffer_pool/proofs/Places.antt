-- Bytes that were read, with zeros behind them.
use Rattle.std.proofs.Common.{◌≡◌, ℕ, zero, suc, ◌*◌, ◌≤◌, List, [], ◌∷◌, ◌++◌, length, take, drop, replicate, refl, sym, ap, ◌∙◌, arith}
use Rattle.std.proofs.lemmas.List.{take-replicate}

pub padded : (m k : ℕ) (area : List ℕ) → m ≤ k → take m area ++ drop (length (take m area)) (replicate m 0) ≡ take m (area ++ replicate k 0)
padded zero k area fits = refl
padded (suc m) k [] fits = sym (take-replicate (suc m) k 0 fits)
padded (suc m) k (byte ∷ area) fits = ap (λ bytes. byte ∷ bytes) (padded m k area (omega (arith, fits)))

-- what was read of a page's place, with zeros behind it
pub read_with_zeros : (count size place page : ℕ) (area : List ℕ) → count ≡ size → place ≡ size * page
    → take count (drop place area) ++ drop (length (take count (drop place area))) (replicate size 0) ≡ take size (drop (size * page) area ++ replicate size 0)
read_with_zeros count size place page area a b =
    let same : size ≤ size = omega arith in
    ap (λ n. take n (drop place area) ++ drop (length (take n (drop place area))) (replicate size 0)) a
    ∙ (ap (λ p. take size (drop p area) ++ drop (length (take size (drop p area))) (replicate size 0)) b
    ∙ padded size size (drop (size * page) area) same)
