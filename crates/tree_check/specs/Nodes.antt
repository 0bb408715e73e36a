-- What a page must be by itself to stand on a level of a tree.
use Rattle.std.specs.Prelude.{◌≡◌, ◌≢◌, ℕ, ◌<◌, List, length, take, map, Option, None, Some, IsTrue}
use Rattle.page_format.specs.Words.{kind_of, level_of, count_of, index_of, record_len_of, low_of, high_of, records_of}
use Rattle.page_format.specs.Shape.{is_tree, AreRising}
use Rattle.btree.specs.declared.tree.Tree.{Tree}
use Rattle.btree.specs.Layout.{width_of}
use Rattle.btree_split.specs.Placed.{BeginsLow}
use Rattle.tree_check.specs.declared.node.NodeBad.{NodeBad}
use Rattle.tree_check.specs.declared.node.NodeBad.TheVariants.{Field, Order, Place, First}

-- there is no such fence, or it is as long as a key
abbrev pub IsFenceOf : ℕ → Option (List ℕ) → Type 0
IsFenceOf key_len None = Unit {0}
IsFenceOf key_len (Some key) = length key ≡ key_len

-- The page is of the tree's index and of that level; an inner page has a child.
pub record StandsOn (tree : Tree) (level : ℕ) (bytes : List ℕ) : Type 0 where
  pub kind : IsTrue (is_tree (kind_of bytes))
  pub index : index_of bytes ≡ tree.index
  pub level_is : level_of bytes ≡ level
  pub some : level ≢ 0 → 0 < count_of bytes

-- Its records are as long as the tree's on its level, and its fences as long as a key.
pub record HasLengths (tree : Tree) (bytes : List ℕ) : Type 0 where
  pub width : record_len_of bytes ≡ width_of tree (level_of bytes)
  pub low : IsFenceOf tree.key_len (low_of bytes)
  pub high : IsFenceOf tree.key_len (high_of bytes)

abbrev pub DoKeysRise : Tree → List ℕ → Type 0
DoKeysRise tree bytes = AreRising (map (take tree.key_len) (records_of bytes))

pub record IsNode (tree : Tree) (level : ℕ) (bytes : List ℕ) : Type 0 where
  pub stands : StandsOn tree level bytes
  pub lengths : HasLengths tree bytes
  pub rising : DoKeysRise tree bytes
  pub first : BeginsLow tree.key_len bytes

-- what is wrong with the page
abbrev pub IsBroken : Tree → ℕ → List ℕ → NodeBad → Type 0
IsBroken tree level bytes Place = StandsOn tree level bytes → ⊥
IsBroken tree level bytes Field = HasLengths tree bytes → ⊥
IsBroken tree level bytes Order = DoKeysRise tree bytes → ⊥
IsBroken tree level bytes First = BeginsLow tree.key_len bytes → ⊥
