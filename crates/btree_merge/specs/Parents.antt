-- The page above the leaf of a key.
use Rattle.std.specs.Prelude.{◌≡◌, ℕ, List, [], ◌∷◌, ◌++◌, Option, None, Some}
use Rattle.law_flat_tree.specs.Descents.{Holds}
use Rattle.law_flat_tree.specs.Trees.{nodes}
use Rattle.btree.specs.declared.tree.Tree.{Tree}
use Rattle.btree.specs.Sound.{lows_of, levels_of}

-- The page stands on the level above the leaves, and its fences hold the key.
pub record IsParent (tree : Tree) (pages : ℕ → List ℕ) (key : List ℕ) (page : ℕ) : Type 0 where
  pub tops : List (List ℕ)
  pub upper : List ℕ
  pub lower : List ℕ
  pub at : levels_of tree pages ≡ tops ++ upper ∷ lower ∷ []
  pub holds : Holds (nodes tree.key_len pages) upper key page

-- the page above the leaf of the key, or that the root is a leaf
abbrev pub IsParentFor : Tree → (ℕ → List ℕ) → List ℕ → Option ℕ → Type 0
IsParentFor tree pages key None = lows_of tree pages ≡ []
IsParentFor tree pages key (Some page) = IsParent tree pages key page
