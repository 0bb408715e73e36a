-- How many latches each actor has, and how many all have together.
use Rattle.std.proofs.Common.{◌≡◌, ℕ, zero, suc, ◌+◌, ◌*◌, ◌<◌, ◌≤◌, Bool, true, false, cond, List, [], ◌∷◌, ◌++◌, length, refl, ap, arith}
use Rattle.std.proofs.lemmas.Bool.{eqb-false}
use Rattle.std.specs.Prelude.{◌==◌, map, filter}
use Rattle.std.specs.List.{AllByRecursion}
use Rattle.latch_table.specs.declared.latches.Latch.{Latch}
use Rattle.latch_table.specs.Held.{targets_of}

abbrev one : Bool → ℕ
one true = 1
one false = 0

abbrev pub tally : ℕ → List Latch → ℕ
tally a [] = 0
tally a (x ∷ xs) = one (x.actor == a) + tally a xs

one_true : (b : Bool) → b ≡ true → one b ≡ 1
one_true b is = ap one is

one_false : (b : Bool) → b ≡ false → one b ≡ 0
one_false b is = ap one is

pub length-targets : (a : ℕ) (xs : List Latch) → length (targets_of a xs) ≡ tally a xs
length-targets a [] = refl
length-targets a (x ∷ xs) = go (x.actor == a) (length-targets a xs) where
  go : (b : Bool) → length (targets_of a xs) ≡ tally a xs
      → length (map (λ (latch : Latch). latch.target) (cond b (x ∷ filter (λ latch. latch.actor == a) xs) (filter (λ latch. latch.actor == a) xs)))
      ≡ one b + tally a xs
  go true h = let more : suc (length (targets_of a xs)) ≡ 1 + tally a xs = omega (arith, h) in more
  go false h = let same : length (targets_of a xs) ≡ 0 + tally a xs = omega (arith, h) in same

pub tally_filter : (a : ℕ) (test : Latch → Bool) (xs : List Latch) → tally a (filter test xs) ≤ tally a xs
tally_filter a test [] = let none : 0 ≤ 0 = omega arith in none
tally_filter a test (x ∷ xs) = go (test x) (tally_filter a test xs) where
  go : (b : Bool) → tally a (filter test xs) ≤ tally a xs → tally a (cond b (x ∷ filter test xs) (filter test xs)) ≤ one (x.actor == a) + tally a xs
  go true h = let more : one (x.actor == a) + tally a (filter test xs) ≤ one (x.actor == a) + tally a xs = omega (arith, h) in more
  go false h = let more : tally a (filter test xs) ≤ one (x.actor == a) + tally a xs = omega (arith, h) in more

tally-push : (a : ℕ) (xs : List Latch) (y : Latch) → tally a (xs ++ y ∷ []) ≡ tally a xs + one (y.actor == a)
tally-push a [] y = let alone : one (y.actor == a) + 0 ≡ 0 + one (y.actor == a) = omega arith in alone
tally-push a (x ∷ xs) y =
    let more : one (x.actor == a) + tally a (xs ++ y ∷ []) ≡ (one (x.actor == a) + tally a xs) + one (y.actor == a) = omega (arith, tally-push a xs y) in more

pub tally_same : (a : ℕ) (xs : List Latch) (y : Latch) → (y.actor == a) ≡ true → tally a (xs ++ y ∷ []) ≡ tally a xs + 1
tally_same a xs y is = omega (arith, tally-push a xs y, one_true (y.actor == a) is)

pub tally_other : (a : ℕ) (xs : List Latch) (y : Latch) → (y.actor == a) ≡ false → tally a (xs ++ y ∷ []) ≡ tally a xs
tally_other a xs y is = omega (arith, tally-push a xs y, one_false (y.actor == a) is)

-- of the actors below n together
abbrev total : ℕ → List Latch → ℕ
total zero xs = 0
total (suc n) xs = tally n xs + total n xs

total_more : (n : ℕ) (x : Latch) (xs : List Latch) → total n xs ≤ total n (x ∷ xs)
total_more zero x xs = let none : 0 ≤ 0 = omega arith in none
total_more (suc n) x xs =
    let more : tally n xs + total n xs ≤ (one (x.actor == n) + tally n xs) + total n (x ∷ xs) = omega (arith, total_more n x xs) in more

total_one : (n : ℕ) (x : Latch) (xs : List Latch) → x.actor < n → total n xs + 1 ≤ total n (x ∷ xs)
total_one zero x xs lt = absurd (omega (arith, lt))
total_one (suc n) x xs lt = go (x.actor == n) refl (total_more n x xs) (total_one n x xs) where
  go : (b : Bool) → (x.actor == n) ≡ b → total n xs ≤ total n (x ∷ xs) → (x.actor < n → total n xs + 1 ≤ total n (x ∷ xs))
      → (tally n xs + total n xs) + 1 ≤ (one (x.actor == n) + tally n xs) + total n (x ∷ xs)
  go true is more below = omega (arith, one_true (x.actor == n) is, more)
  go false is more below =
      let differs : x.actor ≡ n → ⊥ = eqb-false x.actor n is in
      let lower : x.actor < n = omega (arith, lt, differs) in omega (arith, below lower)

length_total : (n : ℕ) (xs : List Latch) → AllByRecursion (λ latch. latch.actor < n) xs → length xs ≤ total n xs
length_total n [] all = omega arith
length_total n (x ∷ xs) all = omega (arith, length_total n xs all.1, total_one n x xs all.0)

total_bound : (n : ℕ) (xs : List Latch) → ((a : ℕ) → tally a xs ≤ 64) → total n xs ≤ n * 64
total_bound zero xs few = let none : 0 ≤ 0 = omega arith in none
total_bound (suc n) xs few = let more : tally n xs + total n xs ≤ suc n * 64 = omega (arith, few n, total_bound n xs few) in more

pub length_bound : (n : ℕ) (xs : List Latch) → AllByRecursion (λ latch. latch.actor < n) xs → ((a : ℕ) → tally a xs ≤ 64) → length xs ≤ n * 64
length_bound n xs known few = omega (arith, length_total n xs known, total_bound n xs few)
