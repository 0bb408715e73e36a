-- Two leaves side by side under one parent, as they are read.
use Rattle.std.specs.Prelude.{◌≡◌, ◌≢◌, ℕ, suc, ◌<◌, List, [], slice_index_or, IsTrue}
use Rattle.page_format.specs.Words.{level_of, count_of, records_of}
use Rattle.mtr.specs.Seen.{is_in, IsShown}
use Rattle.law_flat_tree.specs.Pages.{child_of}
use Rattle.btree.specs.declared.tree.Tree.{Tree}
use Rattle.btree.specs.Layout.{IsLaidOut}
use Rattle.btree.specs.Walks.{IsReadableLeaf}
use Rattle.btree_split.specs.Placed.{IsPlacedTree}
use Rattle.btree_merge.specs.Merges.{IsAboveLeaves}
use Rattle.btree_split.specs.Halves.{child_under}
use Rattle.btree_merge.specs.declared.look.Couple.{Couple}
use Rattle.btree_merge.specs.declared.look.Siblings.{Siblings}
use Rattle.btree_merge.specs.Merged.{FitTogether, CanMerge}

-- The page is an inner one, and these are the children of its record of that number and of the next one.
pub record IsCouple (tree : Tree) (bytes : List ℕ) (j : ℕ) (couple : Couple) : Type 0 where
  pub laid_out : IsLaidOut tree bytes
  pub inner : level_of bytes ≢ 0
  pub within : suc j < count_of bytes
  pub left_is : couple.left ≡ child_of tree.key_len (slice_index_or (records_of bytes) j [])
  pub right_is : couple.right ≡ child_of tree.key_len (slice_index_or (records_of bytes) (suc j) [])

-- The bytes are those of a parent and of two leaves that fit into one page.
pub record AreReadable (tree : Tree) (j : ℕ) (both : Siblings) : Type 0 where
  pub couple : IsCouple tree both.above j both.couple
  pub left : IsReadableLeaf tree both.left
  pub right : IsReadableLeaf tree both.right
  pub fits : FitTogether both.left both.right

pub record AreDealtWith (u : ℕ) (couple : Couple) (visited : List ℕ) : Type 0 where
  pub parent : IsTrue (is_in u visited)
  pub left : IsTrue (is_in couple.left visited)
  pub right : IsTrue (is_in couple.right visited)

-- They stand under the parent's record of that number and the next one, and the bytes show all three.
pub record AreToMerge (tree : Tree) (pages : ℕ → List ℕ) (u j : ℕ) (both : Siblings) : Type 0 where
  pub placed : IsPlacedTree tree pages
  pub above : IsAboveLeaves tree pages u
  pub can : CanMerge tree pages u j
  pub left_is : both.couple.left ≡ child_under tree.key_len pages u j
  pub right_is : both.couple.right ≡ child_under tree.key_len pages u (suc j)
  pub above_shown : IsShown (pages u) both.above
  pub left_shown : IsShown (pages both.couple.left) both.left
  pub right_shown : IsShown (pages both.couple.right) both.right
