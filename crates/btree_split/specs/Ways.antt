-- The way of a key from the root to its leaf, and how many pages at its end are full.
use Rattle.std.specs.Prelude.{◌≡◌, ℕ, suc, List, [], ◌∷◌, ◌++◌, length, Option, None, Some}
use Rattle.std.specs.List.{AllByRecursion}
use Rattle.law_flat_tree.specs.Levels.{Node}
use Rattle.law_flat_tree.specs.Descents.{Holds}
use Rattle.law_flat_tree.specs.Trees.{nodes}
use Rattle.btree.specs.declared.tree.Tree.{Tree}
use Rattle.btree.specs.Sound.{levels_of}
use Rattle.btree_change.specs.Edits.{HasRoom}

-- the pages that hold the key, one on each level
abbrev pub IsWayTo : (ℕ → Node) → List ℕ → List (List ℕ) → List ℕ → Type 0
IsWayTo node key [] [] = Unit {0}
IsWayTo node key (level ∷ levels) (page ∷ way) = Holds node level key page × IsWayTo node key levels way
IsWayTo node key [] (page ∷ way) = ⊥
IsWayTo node key (level ∷ levels) [] = ⊥

-- none takes a record more
abbrev pub AreFull : (ℕ → List ℕ) → List ℕ → Type 0
AreFull pages way = AllByRecursion (λ page. HasRoom (pages page) → ⊥) way

-- So many pages at the end of the way are full: those below the lowest page that has room, or all of them.
abbrev pub EndsFull : (ℕ → List ℕ) → List ℕ → Option ℕ → ℕ → Type 0
EndsFull pages way None full = AreFull pages way × (length way ≡ full)
EndsFull pages way (Some page) full =
    (before after : List ℕ) × (way ≡ before ++ page ∷ after) × HasRoom (pages page) × AreFull pages after × (length after ≡ full)

-- The lowest page with room on the way of the key, if any has, and how many are full below it.
pub record IsLowestRoom (tree : Tree) (pages : ℕ → List ℕ) (key : List ℕ) (above : Option ℕ) (full : ℕ) : Type 0 where
  pub way : List ℕ
  pub leads : IsWayTo (nodes tree.key_len pages) key (levels_of tree pages) way
  pub ends : EndsFull pages way above full

-- how many pages their splits take: one for each that is full, and one more where the root is among them, for what it had
abbrev pub needed : Option ℕ → ℕ → ℕ
needed None full = suc full
needed (Some page) full = full
