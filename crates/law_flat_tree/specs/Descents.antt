-- Which child a search goes to, and the way from the root to a leaf.
use Rattle.std.specs.Prelude.{◌≡◌, ℕ, List, [], ◌∷◌, ◌++◌}
use Rattle.law_flat_tree.specs.Levels.{Fence, Node}
use Rattle.law_flat_tree.specs.Leaves.{IsUnder, IsFrom}

-- an inner page has a child, and the first one begins where the page does
abbrev pub BeginsAt : Fence → List (Fence × ℕ) → Type 0
BeginsAt low [] = ⊥
BeginsAt low (entry ∷ entries) = entry.0 ≡ low

abbrev pub AreInner : (ℕ → Node) → List ℕ → Type 0
AreInner node [] = Unit {0}
AreInner node (page ∷ pages) = BeginsAt (node page).low (node page).entries × AreInner node pages

-- no entry, or the first one is above the key
abbrev pub IsUnderNext : List (Fence × ℕ) → List ℕ → Type 0
IsUnderNext [] key = Unit {0}
IsUnderNext (entry ∷ entries) key = IsUnder entry.0 key

-- the last entry that is at or below the key
pub record IsChosen (entries : List (Fence × ℕ)) (key : List ℕ) (before : List (Fence × ℕ)) (fence : Fence) (page : ℕ)
    (behind : List (Fence × ℕ)) : Type 0 where
  pub whole : entries ≡ before ++ (fence, page) ∷ behind
  pub from : IsFrom fence key
  pub under : IsUnderNext behind key

-- the page stands in the level, and its fences hold the key
pub record Holds (node : ℕ → Node) (level : List ℕ) (key : List ℕ) (page : ℕ) : Type 0 where
  pub xs : List ℕ
  pub ys : List ℕ
  pub whole : level ≡ xs ++ page ∷ ys
  pub from : IsFrom (node page).low key
  pub under : IsUnder (node page).high key

-- the entries lead to this child for the key
pub record Chooses (entries : List (Fence × ℕ)) (key : List ℕ) (child : ℕ) : Type 0 where
  pub before : List (Fence × ℕ)
  pub fence : Fence
  pub behind : List (Fence × ℕ)
  pub chosen : IsChosen entries key before fence child behind

abbrev pub LeadsTo : (ℕ → Node) → List ℕ → ℕ → ℕ → Type 0
LeadsTo node key page child = Chooses (node page).entries key child

-- from this page down to the last of these
abbrev pub IsWay : (ℕ → Node) → List ℕ → ℕ → List ℕ → Type 0
IsWay node key page [] = Unit {0}
IsWay node key page (child ∷ way) = LeadsTo node key page child × IsWay node key child way

abbrev pub end_of : ℕ → List ℕ → ℕ
end_of page [] = page
end_of page (child ∷ way) = end_of child way

-- each level but the last has inner pages
abbrev pub AreAllInner : (ℕ → Node) → List (List ℕ) → Type 0
AreAllInner node [] = Unit {0}
AreAllInner node (level ∷ []) = Unit {0}
AreAllInner node (level ∷ lower ∷ levels) = AreInner node level × AreAllInner node (lower ∷ levels)

-- a step down for each level but the first
abbrev pub IsAsDeep : List ℕ → List (List ℕ) → Type 0
IsAsDeep [] (level ∷ []) = Unit {0}
IsAsDeep (page ∷ way) (level ∷ lower ∷ levels) = IsAsDeep way (lower ∷ levels)
IsAsDeep way levels = ⊥

-- the lowest level
abbrev pub leaves_of : List (List ℕ) → List ℕ
leaves_of [] = []
leaves_of (level ∷ []) = level
leaves_of (level ∷ lower ∷ levels) = leaves_of (lower ∷ levels)
