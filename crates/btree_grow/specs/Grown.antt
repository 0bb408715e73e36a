-- What becomes of a placed tree, and of the file's pages, that grows by pages that are taken.
use Rattle.std.specs.Prelude.{◌≡◌, ◌⊎◌, ℕ, ◌+◌, ◌<◌, List, ◌∷◌, ◌++◌, length, false, if◌then◌else◌}
use Rattle.std.specs.List.{AllByRecursion}
use Rattle.stored_pages.specs.declared.layout.TheConstants.{PAGE_COUNT}
use Rattle.store_api.specs.declared.limits.TheConstants.{MOST_PAGES}
use Rattle.entries.specs.Pairs.{Pair}
use Rattle.stored_pages.specs.Words.{u32_at}
use Rattle.mtr.specs.Seen.{is_in, AreDistinct}
use Rattle.space_map.specs.Map.{mark_of, free_among}
use Rattle.law_flat_tree.specs.Descents.{Holds}
use Rattle.law_flat_tree.specs.PageSplits.{StandsNowhere}
use Rattle.law_flat_tree.specs.Trees.{nodes}
use Rattle.btree.specs.declared.tree.Tree.{Tree}
use Rattle.btree.specs.Sound.{levels_of, tree_pairs}
use Rattle.btree_change.specs.Edits.{HasRoom}
use Rattle.btree_split.specs.Placed.{IsPlacedTree}
use Rattle.btree_split.specs.Ways.{IsWayTo, AreFull}
use Rattle.btree_grow.specs.declared.growing.Room.{Room}
use Rattle.btree_grow.specs.declared.growing.Room.TheVariants.{Leaf, Full}

-- The tree has these pairs now, on its own pages, of which it loses none, and on those that were taken for it, which were free.
-- No other page changes but the map's.
pub record Grows (tree : Tree) (pairs : List Pair) (taken : List ℕ) (old new : ℕ → List ℕ) : Type 0 where
  pub placed : IsPlacedTree tree new
  pub pairs_are : tree_pairs tree new ≡ pairs
  pub were_free : AllByRecursion (λ page. mark_of old page ≡ 0) taken
  pub stand : AllByRecursion (λ page. StandsNowhere page (levels_of tree new) → ⊥) taken
  pub rest : (page : ℕ) → StandsNowhere page (levels_of tree old) → is_in page taken ≡ false → StandsNowhere page (levels_of tree new)
  pub keep : (page : ℕ) → StandsNowhere page (levels_of tree new) → StandsNowhere page (levels_of tree old)
  pub marks : (page : ℕ) → page < MOST_PAGES → mark_of new page ≡ (if is_in page taken then 1 else mark_of old page)
  pub others : (page : ℕ) → StandsNowhere page (levels_of tree old) → is_in page taken ≡ false → (page < 2) ⊎ (4 < page) → new page ≡ old page

-- The page is on the way of the key and has room, and below it the way goes on through so many pages, each of them full.
pub record StandsAbove (tree : Tree) (key : List ℕ) (n page : ℕ) (pages : ℕ → List ℕ) : Type 0 where
  pub placed : IsPlacedTree tree pages
  pub tops : List (List ℕ)
  pub upper : List ℕ
  pub under : List (List ℕ)
  pub at : levels_of tree pages ≡ tops ++ upper ∷ under
  pub holds : Holds (nodes tree.key_len pages) upper key page
  pub room : HasRoom (pages page)
  pub way : List ℕ
  pub leads : IsWayTo (nodes tree.key_len pages) key under way
  pub full : AreFull pages way
  pub many : length way ≡ n

-- how many pages of the file are free
abbrev pub free_in : (ℕ → List ℕ) → ℕ
free_in pages = free_among pages 0 (u32_at PAGE_COUNT (pages 0))

-- So many pages were taken, the pairs are the same, and the page has room now above so many full ones.
pub record HasGrown (tree : Tree) (key : List ℕ) (k n page : ℕ) (old new : ℕ → List ℕ) : Type 0 where
  pub taken : List ℕ
  pub many : length taken ≡ k
  pub distinct : AreDistinct taken
  pub grows : Grows tree (tree_pairs tree old) taken old new
  pub above : StandsAbove tree key n page new
  pub fewer : free_in old ≡ k + free_in new
  pub header : new 0 ≡ old 0

-- The leaf of the key has room now, and so many pages were taken as were needed. Or fewer were free.
abbrev pub MakesRoom : Tree → List ℕ → ℕ → (ℕ → List ℕ) → (ℕ → List ℕ) → Room → Type 0
MakesRoom tree key need old new (Leaf leaf) = HasGrown tree key need 0 leaf old new
MakesRoom tree key need old new (Full free) = (free ≡ free_in old) × (free < need)

-- where pages lack, fewer than so many were free
abbrev pub LacksPages : ℕ → Room → Type 0
LacksPages need (Leaf leaf) = Unit {0}
LacksPages need (Full free) = free < need
