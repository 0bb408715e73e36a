-- A sound tree of which a page was split.
use Rattle.std.specs.Prelude.{◌≡◌, ℕ, List, [], ◌∷◌, ◌++◌}
use Rattle.btree.specs.declared.tree.Tree.{Tree}
use Rattle.btree.specs.Sound.{IsSoundTree, levels_of, tree_pairs}

-- The tree is sound, with the same pairs, and page q stands behind page p.
pub record IsSoundSplit (tree : Tree) (old new : ℕ → List ℕ) (tops : List (List ℕ)) (upper lower : List ℕ) (under : List (List ℕ)) (p q : ℕ) : Type 0 where
  pub xs : List ℕ
  pub ys : List ℕ
  pub stood : lower ≡ xs ++ p ∷ ys
  pub sound : IsSoundTree tree new
  pub levels : levels_of tree new ≡ tops ++ upper ∷ (xs ++ p ∷ q ∷ ys) ∷ under
  pub pairs : tree_pairs tree new ≡ tree_pairs tree old

-- the records behind the first one
abbrev pub later : List (List ℕ) → List (List ℕ)
later [] = []
later (r ∷ rs) = rs
