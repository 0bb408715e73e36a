-- A tree that was just made: its root is an empty leaf.
use Rattle.std.specs.Prelude.{◌≡◌, ℕ, ◌+◌, ◌<◌, ◌≤◌, List, drop, slice_index}
use Rattle.stored_pages.specs.declared.layout.TheConstants.{PAGE_COUNT, COVERED}
use Rattle.page_format.specs.declared.layout.TheConstants.{LEAF, LOW_LEN, HIGH_LEN, NO_FENCE, LOW}
use Rattle.store_api.specs.declared.limits.TheConstants.{MOST_PAGES}
use Rattle.page_format.specs.Words.{kind_of, level_of, count_of, index_of, record_len_of, right_of}
use Rattle.stored_pages.specs.Words.{u32_at}
use Rattle.page_format.specs.Shape.{AreZeros}
use Rattle.space_map.specs.Map.{bit_in}
use Rattle.btree.specs.declared.tree.Tree.{Tree}

-- The page is a leaf of the tree's index with no record, no fence and no neighbour, and zeros behind its fields.
pub record IsEmptyLeaf (tree : Tree) (bytes : List ℕ) : Type 0 where
  pub kind : kind_of bytes ≡ LEAF
  pub level : level_of bytes ≡ 0
  pub count : count_of bytes ≡ 0
  pub index : index_of bytes ≡ tree.index
  pub right : right_of bytes ≡ 0
  pub width : record_len_of bytes ≡ tree.key_len + tree.value_len
  pub low : slice_index bytes LOW_LEN ≡ NO_FENCE
  pub high : slice_index bytes HIGH_LEN ≡ NO_FENCE
  pub rest : AreZeros (drop LOW bytes)

-- the first pages are marked as used
abbrev pub AreReserved : List ℕ → Type 0
AreReserved map = (page : ℕ) → page ≤ 20 → bit_in map page ≡ 1

-- The root is one of the pages that page 0 counts, behind the first ones; these are marked as used, and so is the root.
pub record IsCountedRoot (root : ℕ) (header map : List ℕ) : Type 0 where
  pub beyond : 20 < root
  pub covered : root < COVERED
  pub counted : root < u32_at PAGE_COUNT header
  pub few : u32_at PAGE_COUNT header ≤ MOST_PAGES
  pub reserved : AreReserved map
  pub used : bit_in map root ≡ 1

-- The pages hold a tree that was just made: its root is in use, and an empty leaf.
abbrev pub HoldsNewTree : Tree → (ℕ → List ℕ) → Type 0
HoldsNewTree tree pages = IsCountedRoot tree.root (pages 0) (pages 2) × IsEmptyLeaf tree (pages tree.root)
