-- The pairs of a row of leaves, and where they lie.
use Rattle.std.specs.Prelude.{◌≡◌, ◌≢◌, ℕ, List, [], ◌∷◌, true, Option, None, Some}
use Rattle.std.specs.declared.cmp.Ordering.TheVariants.{Less}
use Rattle.std.specs.Ordering.{is_le}
use Rattle.std.specs.List.{flat_map, AllByRecursion}
use Rattle.entries.specs.Pairs.{Pair, key_cmp, AreRising}
use Rattle.law_flat_tree.specs.Levels.{Fence, Node}
use Rattle.law_flat_tree.specs.Levels.Fence.{First, Key, Last}

abbrev pub IsUnder : Fence → List ℕ → Type 0
IsUnder First key = ⊥
IsUnder (Key fence) key = key_cmp key fence ≡ Less
IsUnder Last key = Unit {0}

abbrev pub IsFrom : Fence → List ℕ → Type 0
IsFrom First key = Unit {0}
IsFrom (Key fence) key = is_le (key_cmp fence key) ≡ true
IsFrom Last key = ⊥

-- what is under the one is under the other, and what is from the other is from the one
pub record IsUpTo (fence other : Fence) : Type 0 where
  pub under : (key : List ℕ) → IsUnder fence key → IsUnder other key
  pub from : (key : List ℕ) → IsFrom other key → IsFrom fence key

-- some key is in between
pub record HasRoom (low high : Fence) : Type 0 where
  pub key : List ℕ
  pub from : IsFrom low key
  pub under : IsUnder high key

abbrev pub HaveRoom : (ℕ → Node) → List ℕ → Type 0
HaveRoom node [] = Unit {0}
HaveRoom node (page ∷ pages) = HasRoom (node page).low (node page).high × HaveRoom node pages

abbrev pub AreOthers : ℕ → List ℕ → Type 0
AreOthers page pages = AllByRecursion (λ other. other ≢ page) pages

-- a leaf by itself
pub record IsLeaf (node : Node) (pairs : List Pair) : Type 0 where
  pub room : HasRoom node.low node.high
  pub from : AllByRecursion (λ pair. IsFrom node.low pair.0) pairs
  pub under : AllByRecursion (λ pair. IsUnder node.high pair.0) pairs
  pub rising : AreRising pairs

abbrev pub AreLeaves : (ℕ → Node) → (ℕ → List Pair) → List ℕ → Type 0
AreLeaves node held [] = Unit {0}
AreLeaves node held (page ∷ pages) = IsLeaf (node page) (held page) × AreLeaves node held pages

abbrev pub pairs_of : (ℕ → List Pair) → List ℕ → List Pair
pairs_of held pages = flat_map held pages

-- the first of these, or else this
abbrev pub first_or : List Pair → Option Pair → Option Pair
first_or [] other = other
first_or (pair ∷ pairs) other = Some pair

-- the first pair of the first leaf that has one
abbrev pub first_held : (ℕ → List Pair) → List ℕ → Option Pair
first_held held [] = None
first_held held (page ∷ pages) = first_or (held page) (first_held held pages)

-- one page has what the edit makes of its pairs, and the others have what they had
pub record IsEdited (edit : List Pair → List Pair) (page : ℕ) (old new : ℕ → List Pair) : Type 0 where
  pub here : new page ≡ edit (old page)
  pub others : (other : ℕ) → other ≢ page → new other ≡ old other
