-- Numbered sessions, one more of them.
use Rattle.std.proofs.Common.{◌≡◌, ℕ, ◌+◌, List, [], ◌∷◌, ◌++◌, length, map, refl, ap, ◌∙◌, arith}
use Rattle.std.specs.List.{AllByRecursion}
use Rattle.script_play.specs.Playing.{AreNumbered}

pub numbered_more : (from : ℕ) (numbers : List ℕ) (n : ℕ) → AreNumbered from numbers → n ≡ from + length numbers → AreNumbered from (numbers ++ n ∷ [])
numbered_more from [] n numbered is = (omega (arith, is), tt)
numbered_more from (m ∷ numbers) n numbered is = (numbered.0, numbered_more (from + 1) numbers n numbered.1 (omega (arith, is)))

pub all_more : {X : Type 0} (P : X → Type 0) (xs : List X) (x : X) → AllByRecursion P xs → P x → AllByRecursion P (xs ++ x ∷ [])
all_more P [] x all p = (p, tt)
all_more P (y ∷ xs) x all p = (all.0, all_more P xs x all.1 p)

pub map_more : {X Y : Type 0} (f : X → Y) (xs : List X) (x : X) → map f (xs ++ x ∷ []) ≡ map f xs ++ f x ∷ []
map_more f [] x = refl
map_more f (y ∷ xs) x = ap (λ list. f y ∷ list) (map_more f xs x)

pub map_length : {X Y : Type 0} (f : X → Y) (xs : List X) → length (map f xs) ≡ length xs
map_length f [] = refl
map_length f (y ∷ xs) = omega (arith, map_length f xs)
