-- A tree on used pages of the file, and a page above the one of a key.
use Rattle.std.specs.Prelude.{◌≡◌, ◌≢◌, ℕ, ◌<◌, ◌≤◌, List, [], ◌∷◌, ◌++◌, take, slice_index_or, replicate, Option, None, Some}
use Rattle.std.specs.List.{AllByRecursion}
use Rattle.page_format.specs.Words.{level_of, low_of, records_of}
use Rattle.space_map.specs.Map.{mark_of}
use Rattle.law_flat_tree.specs.Descents.{Holds}
use Rattle.law_flat_tree.specs.Trees.{nodes}
use Rattle.btree.specs.declared.tree.Tree.{Tree}
use Rattle.btree.specs.Sound.{levels_of}
use Rattle.btree_change.specs.Trees.{IsWholeTree}

-- the least key from a low fence on: the fence, or zeros where there is none
abbrev pub least_key : ℕ → Option (List ℕ) → List ℕ
least_key key_len None = replicate key_len 0
least_key key_len (Some fence) = fence

-- the first key of an inner page is the least that the page may hold
abbrev pub BeginsLow : ℕ → List ℕ → Type 0
BeginsLow key_len bytes = level_of bytes ≢ 0 → take key_len (slice_index_or (records_of bytes) 0 []) ≡ least_key key_len (low_of bytes)

-- What a tree's page is in the file: one behind the first ones, and in use. And its first key is low.
pub record IsPlacedPage (key_len : ℕ) (pages : ℕ → List ℕ) (page : ℕ) : Type 0 where
  pub beyond : 20 < page
  pub used : mark_of pages page ≡ 1
  pub first : BeginsLow key_len (pages page)

-- The tree stands as it should, on pages of the file that are in use; so are the first ones, which are no tree's.
pub record IsPlacedTree (tree : Tree) (pages : ℕ → List ℕ) : Type 0 where
  pub whole : IsWholeTree tree pages
  pub reserved : (page : ℕ) → page ≤ 20 → mark_of pages page ≡ 1
  pub placed : AllByRecursion (AllByRecursion (IsPlacedPage tree.key_len pages)) (levels_of tree pages)

-- The page stands above another level, and its fences hold the key.
pub record IsParent (tree : Tree) (pages : ℕ → List ℕ) (key : List ℕ) (page : ℕ) : Type 0 where
  pub tops : List (List ℕ)
  pub upper : List ℕ
  pub lower : List ℕ
  pub under : List (List ℕ)
  pub at : levels_of tree pages ≡ tops ++ upper ∷ lower ∷ under
  pub holds : Holds (nodes tree.key_len pages) upper key page
