-- A tree whose pages stand as they should, and the pairs that it has.
use Rattle.std.specs.Prelude.{◌≡◌, ◌≢◌, ℕ, ◌<◌, List, [], ◌∷◌, take, map, Option}
use Rattle.std.specs.List.{AllByRecursion}
use Rattle.store_api.specs.declared.limits.TheConstants.{MOST_PAGES}
use Rattle.entries.specs.Pairs.{Pair, first_from, first_after}
use Rattle.page_format.specs.Words.{level_of, index_of, record_len_of, records_of}
use Rattle.page_format.specs.Shape.{HasTreeFields, AreRising}
use Rattle.law_flat_tree.specs.Levels.{levels_under}
use Rattle.law_flat_tree.specs.Descents.{Holds, leaves_of}
use Rattle.law_flat_tree.specs.Trees.{IsTree, nodes, levels_from, all_pairs}
use Rattle.btree.specs.declared.tree.Tree.{Tree}
use Rattle.btree.specs.declared.tree.Bound.{Bound}
use Rattle.btree.specs.declared.tree.Bound.TheVariants.{AtOrAbove, Above}
use Rattle.btree.specs.Layout.{width_of}

-- the levels below the root, read off the pages from the root on
abbrev pub lows_of : Tree → (ℕ → List ℕ) → List (List ℕ)
lows_of tree pages = levels_under (level_of (pages tree.root)) (nodes tree.key_len pages) (tree.root ∷ [])

abbrev pub levels_of : Tree → (ℕ → List ℕ) → List (List ℕ)
levels_of tree pages = levels_from tree.root (lows_of tree pages)

-- What a page of a tree is by itself: it has a number that a page of a file may have, but for the first, it is of this index, its
-- fields have their values, its records are as long as the tree's, and their keys rise.
pub record IsTreePage (tree : Tree) (pages : ℕ → List ℕ) (page : ℕ) : Type 0 where
  pub some : page ≢ 0
  pub within : page < MOST_PAGES
  pub fields : HasTreeFields (pages page)
  pub index : index_of (pages page) ≡ tree.index
  pub width : record_len_of (pages page) ≡ width_of tree (level_of (pages page))
  pub rising : AreRising (map (take tree.key_len) (records_of (pages page)))

-- The pages are a tree, and each of them is one of its pages by itself.
pub record IsSoundTree (tree : Tree) (pages : ℕ → List ℕ) : Type 0 where
  pub stands : IsTree tree.key_len pages tree.root (lows_of tree pages)
  pub each : AllByRecursion (AllByRecursion (IsTreePage tree pages)) (levels_of tree pages)

-- the leaf whose fences hold the key
abbrev pub HoldsKey : Tree → (ℕ → List ℕ) → List ℕ → ℕ → Type 0
HoldsKey tree pages key leaf = Holds (nodes tree.key_len pages) (leaves_of (levels_of tree pages)) key leaf

-- the pairs of a tree, in the order of their keys
abbrev pub tree_pairs : Tree → (ℕ → List ℕ) → List Pair
tree_pairs tree pages = all_pairs tree.key_len pages tree.root (lows_of tree pages)

-- the first pair whose key passes
abbrev pub first_by : Bound → List ℕ → List Pair → Option Pair
first_by AtOrAbove key pairs = first_from key pairs
first_by Above key pairs = first_after key pairs
