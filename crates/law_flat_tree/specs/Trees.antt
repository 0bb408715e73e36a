-- A tree as its pages' bytes say it.
use Rattle.std.specs.Prelude.{◌≡◌, ◌≢◌, ℕ, List, [], ◌∷◌, None, length}
use Rattle.std.specs.List.{AllByRecursion}
use Rattle.entries.specs.Pairs.{Pair}
use Rattle.page_format.specs.Words.{level_of, low_of, high_of, right_of, records_of}
use Rattle.page_format.specs.Changes.{KeepsFields}
use Rattle.law_flat_tree.specs.Levels.{Node, AreLevels}
use Rattle.law_flat_tree.specs.Leaves.{AreLeaves, pairs_of}
use Rattle.law_flat_tree.specs.Descents.{AreAllInner, leaves_of}
use Rattle.law_flat_tree.specs.Pages.{node_of, leaf_pairs}

abbrev pub nodes : ℕ → (ℕ → List ℕ) → ℕ → Node
nodes key_len pages page = node_of key_len (pages page)

abbrev pub pairs_in : ℕ → (ℕ → List ℕ) → ℕ → List Pair
pairs_in key_len pages page = leaf_pairs key_len (pages page)

-- the levels from the root down
abbrev pub levels_from : ℕ → List (List ℕ) → List (List ℕ)
levels_from root lows = (root ∷ []) ∷ lows

-- each page bears the number of its level, counted from the leaves
abbrev pub AreNumbered : (ℕ → List ℕ) → List (List ℕ) → Type 0
AreNumbered pages [] = Unit {0}
AreNumbered pages (level ∷ levels) = AllByRecursion (λ page. level_of (pages page) ≡ length levels) level × AreNumbered pages levels

-- The fences of each level follow one another, each inner page begins with its first child, and the leaves hold pairs that rise.
pub record IsTree (key_len : ℕ) (pages : ℕ → List ℕ) (root : ℕ) (lows : List (List ℕ)) : Type 0 where
  pub levels : AreLevels (nodes key_len pages) (levels_from root lows)
  pub inner : AreAllInner (nodes key_len pages) (levels_from root lows)
  pub leaves : AreLeaves (nodes key_len pages) (pairs_in key_len pages) (leaves_of (levels_from root lows))
  pub numbered : AreNumbered pages (levels_from root lows)

abbrev pub all_pairs : ℕ → (ℕ → List ℕ) → ℕ → List (List ℕ) → List Pair
all_pairs key_len pages root lows = pairs_of (pairs_in key_len pages) (leaves_of (levels_from root lows))

-- the records of one page are changed, and nothing else
pub record ChangesRecords (page : ℕ) (old new : ℕ → List ℕ) : Type 0 where
  pub kept : KeepsFields (old page) (new page)
  pub others : (other : ℕ) → other ≢ page → new other ≡ old other

-- a leaf by itself, with nothing in it
pub record IsEmptyRoot (bytes : List ℕ) : Type 0 where
  pub level : level_of bytes ≡ 0
  pub low : low_of bytes ≡ None
  pub high : high_of bytes ≡ None
  pub right : right_of bytes ≡ 0
  pub records : records_of bytes ≡ []
