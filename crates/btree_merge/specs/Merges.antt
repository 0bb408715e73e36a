-- Two leaves under one parent that become one, and a page that is given back, by the bytes of the pages.
use Rattle.std.specs.Prelude.{◌≡◌, ◌≢◌, ◌⊎◌, ℕ, suc, ◌<◌, List, [], ◌∷◌, ◌++◌, remove, replicate, slice_index_or}
use Rattle.stored_pages.specs.declared.layout.TheConstants.{PAGE}
use Rattle.store_api.specs.declared.limits.TheConstants.{MOST_PAGES}
use Rattle.page_format.specs.Words.{level_of, index_of, record_len_of, low_of, high_of, right_of, records_of}
use Rattle.page_format.specs.Shape.{HasTreeFields}
use Rattle.page_format.specs.Changes.{KeepsFields}
use Rattle.space_map.specs.Map.{mark_of}
use Rattle.law_flat_tree.specs.Pages.{child_of}
use Rattle.law_flat_tree.specs.PageSplits.{StandsNowhere}
use Rattle.btree.specs.declared.tree.Tree.{Tree}
use Rattle.btree.specs.Sound.{levels_of, tree_pairs}
use Rattle.btree_split.specs.Placed.{IsPlacedTree}
use Rattle.btree_split.specs.Halves.{child_under}

-- The page stands on the level above the leaves.
pub record IsAboveLeaves (tree : Tree) (pages : ℕ → List ℕ) (u : ℕ) : Type 0 where
  pub tops : List (List ℕ)
  pub cs : List ℕ
  pub ds : List ℕ
  pub leaves : List ℕ
  pub at : levels_of tree pages ≡ tops ++ (cs ++ u ∷ ds) ∷ leaves ∷ []

-- The page begins where it began, has the other one's records behind its own, and ends where that one ends.
pub record IsJoined (old other new : List ℕ) : Type 0 where
  pub fields : HasTreeFields new
  pub index : index_of new ≡ index_of old
  pub width : record_len_of new ≡ record_len_of old
  pub level : level_of new ≡ level_of old
  pub low : low_of new ≡ low_of old
  pub high : high_of new ≡ high_of other
  pub right : right_of new ≡ right_of other
  pub records : records_of new ≡ records_of old ++ records_of other

-- Leaf p gets the records of leaf q, and the parent u loses its record for q, the one behind its j-th; no other page changes.
pub record MergesLeaves (j u p q : ℕ) (old new : ℕ → List ℕ) : Type 0 where
  pub joined : IsJoined (old p) (old q) (new p)
  pub parent_fields : HasTreeFields (new u)
  pub parent_kept : KeepsFields (old u) (new u)
  pub parent_records : records_of (new u) ≡ remove (records_of (old u)) (suc j)
  pub others : (r : ℕ) → r ≢ u → r ≢ p → new r ≡ old r

-- The page is zeros, and marked as free. Other pages keep their marks, and all but the map's are as before.
pub record FreesPage (page : ℕ) (old new : ℕ → List ℕ) : Type 0 where
  pub free : mark_of new page ≡ 0
  pub marks : (other : ℕ) → other < MOST_PAGES → other ≢ page → mark_of new other ≡ mark_of old other
  pub blank : new page ≡ replicate PAGE 0
  pub others : (other : ℕ) → other ≢ page → (other < 2) ⊎ (4 < other) → new other ≡ old other

-- The tree has the same pairs, on its pages but for this one, which stands in it no longer; and no page stands in it that didn't.
pub record LosesPage (tree : Tree) (page : ℕ) (old new : ℕ → List ℕ) : Type 0 where
  pub placed : IsPlacedTree tree new
  pub same_pairs : tree_pairs tree new ≡ tree_pairs tree old
  pub stood : StandsNowhere page (levels_of tree old) → ⊥
  pub gone : StandsNowhere page (levels_of tree new)
  pub keep : (other : ℕ) → other ≢ page → StandsNowhere other (levels_of tree new) → StandsNowhere other (levels_of tree old)
  pub rest : (other : ℕ) → StandsNowhere other (levels_of tree old) → StandsNowhere other (levels_of tree new)

-- The tree loses a page, which is free then, and zeros. No other page changes its mark, and none that isn't the tree's changes, but
-- for the map's.
pub record Shrinks (tree : Tree) (freed : ℕ) (old new : ℕ → List ℕ) : Type 0 where
  pub loses : LosesPage tree freed old new
  pub free : mark_of new freed ≡ 0
  pub marks : (page : ℕ) → page < MOST_PAGES → page ≢ freed → mark_of new page ≡ mark_of old page
  pub blank : new freed ≡ replicate PAGE 0
  pub others : (page : ℕ) → StandsNowhere page (levels_of tree old) → (page < 2) ⊎ (4 < page) → new page ≡ old page
