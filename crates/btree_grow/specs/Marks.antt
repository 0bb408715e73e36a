-- What a change of one tree leaves of the file for the trees of other indexes.
-- Growing a tree gives it, and another tree stays by it. The map's pages alone are left open.
use Rattle.std.specs.Prelude.{◌≡◌, ℕ, ◌<◌, List}
use Rattle.store_api.specs.declared.limits.TheConstants.{MOST_PAGES}
use Rattle.space_map.specs.Map.{mark_of}
use Rattle.law_flat_tree.specs.PageSplits.{StandsNowhere}
use Rattle.btree.specs.declared.tree.Tree.{Tree}
use Rattle.btree.specs.Sound.{levels_of}

-- Used pages that aren't the tree's stay as they are, but for the map's, and stay used.
pub record Spares (tree : Tree) (old new : ℕ → List ℕ) : Type 0 where
  pub header : new 0 ≡ old 0
  pub used : (page : ℕ) → page < MOST_PAGES → StandsNowhere page (levels_of tree old) → mark_of old page ≡ 1 → mark_of new page ≡ 1
  pub others : (page : ℕ) → 20 < page → StandsNowhere page (levels_of tree old) → mark_of old page ≡ 1 → new page ≡ old page
