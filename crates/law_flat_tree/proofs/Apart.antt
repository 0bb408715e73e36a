-- The pages of a tree that an edit doesn't touch: each level bears its number, and no page stands twice on its level.
use Rattle.std.proofs.Common.{◌≡◌, ◌≢◌, ℕ, ◌<◌, ◌≤◌, List, [], ◌∷◌, ◌++◌, length, ap, arith}
use Rattle.std.specs.List.{AllByRecursion}
use Rattle.page_format.specs.Words.{level_of}
use Rattle.law_flat_tree.specs.Levels.{AreAlike, AreLevelsAlike}
use Rattle.law_flat_tree.specs.Trees.{AreNumbered}

pub each_of : {A : Type 0} (P Q : A → Type 0) → ((x : A) → P x → Q x) → (xs : List A) → AllByRecursion P xs → AllByRecursion Q xs
each_of P Q on [] all = tt
each_of P Q on (x ∷ xs) all = (on x all.0, each_of P Q on xs all.1)

pub with_both : {A : Type 0} (P Q R : A → Type 0) → ((x : A) → P x → Q x → R x) → (xs : List A) → AllByRecursion P xs → AllByRecursion Q xs
    → AllByRecursion R xs
with_both P Q R on [] ps qs = tt
with_both P Q R on (x ∷ xs) ps qs = (on x ps.0 qs.0, with_both P Q R on xs ps.1 qs.1)

pub left_of : {A : Type 0} (P : A → Type 0) (xs ys : List A) → AllByRecursion P (xs ++ ys) → AllByRecursion P xs
left_of P [] ys all = tt
left_of P (x ∷ xs) ys all = (all.0, left_of P xs ys all.1)

pub behind_of : {A : Type 0} (P : A → Type 0) (xs ys : List A) → AllByRecursion P (xs ++ ys) → AllByRecursion P ys
behind_of P [] ys all = all
behind_of P (x ∷ xs) ys all = behind_of P xs ys all.1

-- one more in the middle
pub one_more : {A : Type 0} (P : A → Type 0) (xs ys : List A) (p q : A) → P q → AllByRecursion P (xs ++ p ∷ ys) → AllByRecursion P (xs ++ p ∷ q ∷ ys)
one_more P [] ys p q new all = (all.0, (new, all.1))
one_more P (x ∷ xs) ys p q new all = (all.0, one_more P xs ys p q new all.1)

no_longer : {A : Type 0} (xs ys : List A) → length ys ≤ length (xs ++ ys)
no_longer [] ys = omega arith
no_longer (x ∷ xs) ys = omega (arith, no_longer xs ys)

-- levels above have greater numbers, and levels below lesser ones
pub numbers_above : (pages : ℕ → List ℕ) (tops rest : List (List ℕ)) → AreNumbered pages (tops ++ rest)
    → AllByRecursion (λ level. AllByRecursion (λ x. length rest ≤ level_of (pages x)) level) tops
numbers_above pages [] rest numbered = tt
numbers_above pages (top ∷ tops) rest numbered = (
  each_of (λ x. level_of (pages x) ≡ length (tops ++ rest)) (λ x. length rest ≤ level_of (pages x))
      (λ x is. omega (arith, is, no_longer tops rest)) top numbered.0,
  numbers_above pages tops rest numbered.1,
)

pub numbers_from : (pages : ℕ → List ℕ) (tops rest : List (List ℕ)) → AreNumbered pages (tops ++ rest) → AreNumbered pages rest
numbers_from pages [] rest numbered = numbered
numbers_from pages (top ∷ tops) rest numbered = numbers_from pages tops rest numbered.1

pub numbers_below : (pages : ℕ → List ℕ) (k : ℕ) (under : List (List ℕ)) → length under ≤ k → AreNumbered pages under
    → AllByRecursion (λ level. AllByRecursion (λ x. level_of (pages x) < k) level) under
numbers_below pages k [] short numbered = tt
numbers_below pages k (level ∷ under) short numbered = (
  each_of (λ x. level_of (pages x) ≡ length under) (λ x. level_of (pages x) < k) (λ x is. omega (arith, is, short)) level numbered.0,
  numbers_below pages k under (omega (arith, short)) numbered.1,
)

-- a page that bears another number is another page
pub other_by_number : (pages : ℕ → List ℕ) (x p : ℕ) → level_of (pages x) ≢ level_of (pages p) → x ≢ p
other_by_number pages x p differ same = differ (ap (λ y. level_of (pages y)) same)

pub alike_by : {A : Type 0} (P : ℕ → Type 0) (old new : ℕ → A) → ((x : ℕ) → P x → new x ≡ old x) → (xs : List ℕ) → AllByRecursion P xs → AreAlike old new xs
alike_by P old new same [] all = tt
alike_by P old new same (x ∷ xs) all = (same x all.0, alike_by P old new same xs all.1)

pub levels_alike_by : {A : Type 0} (P : ℕ → Type 0) (old new : ℕ → A) → ((x : ℕ) → P x → new x ≡ old x) → (levels : List (List ℕ))
    → AllByRecursion (λ level. AllByRecursion P level) levels → AreLevelsAlike old new levels
levels_alike_by P old new same [] all = tt
levels_alike_by P old new same (level ∷ levels) all = (alike_by P old new same level all.0, levels_alike_by P old new same levels all.1)
