-- A page 0 of zeros counts no pages.
use Rattle.std.proofs.Common.{◌≡◌, ℕ, ◌-◌, ◌≤◌, List, take, replicate, refl, ap, ◌∙◌, arith}
use Rattle.std.specs.Int.{w32, from_be_bytes}
use Rattle.std.proofs.lemmas.List.{drop-replicate, take-replicate}
use Rattle.stored_pages.specs.Words.{u32_at}

-- the zeros are so many, which are not to be written out
no_pages : (n : ℕ) → n ≡ 4096 → u32_at 44 (replicate n 0) ≡ 0
unfolding u32_at
no_pages n many = ap (λ (l : List ℕ). from_be_bytes w32 (take 4 l)) (drop-replicate 44 n 0) ∙ ap (from_be_bytes w32) (take-replicate 4 (n - 44) 0 (omega (arith, many)))

pub none_counted : (n : ℕ) → u32_at 44 (replicate 4096 0) ≤ n
none_counted n = omega (arith, no_pages 4096 refl)
