-- Which leaves can be merged, and what a merge makes of a placed tree.
use Rattle.std.specs.Prelude.{◌≡◌, ℕ, suc, ◌+◌, ◌*◌, ◌<◌, ◌≤◌, List, length, Option, None, Some}
use Rattle.stored_pages.specs.declared.layout.TheConstants.{PAGE}
use Rattle.page_format.specs.declared.layout.TheConstants.{RECORDS}
use Rattle.page_format.specs.Words.{count_of, record_len_of, records_of}
use Rattle.btree.specs.declared.tree.Tree.{Tree}
use Rattle.btree_merge.specs.Merges.{Shrinks}
use Rattle.btree_split.specs.Halves.{child_under}

-- the records of both pages have room in one
abbrev pub FitTogether : List ℕ → List ℕ → Type 0
FitTogether left right = RECORDS + (count_of left + count_of right) * record_len_of left ≤ PAGE

-- less than half of the records that a page has room for: twice as many have room, and one more
abbrev pub HoldsFew : List ℕ → Type 0
HoldsFew bytes = RECORDS + (2 * count_of bytes + 1) * record_len_of bytes ≤ PAGE

-- The parent has a record of that number and one behind it, and the leaves that they lead to would fit into one page.
pub record CanMerge (tree : Tree) (pages : ℕ → List ℕ) (u j : ℕ) : Type 0 where
  pub within : suc j < length (records_of (pages u))
  pub fits : FitTogether (pages (child_under tree.key_len pages u j)) (pages (child_under tree.key_len pages u (suc j)))

-- The two leaves could be merged, and are: the tree has the same pairs without the page to the right, which is free.
pub record MergesCouple (tree : Tree) (u j freed : ℕ) (old new : ℕ → List ℕ) : Type 0 where
  pub can : CanMerge tree old u j
  pub freed_is : freed ≡ child_under tree.key_len old u (suc j)
  pub shrinks : Shrinks tree freed old new

-- The two leaves are merged where they can be, and else nothing is changed.
abbrev pub DoesMerge : Tree → ℕ → ℕ → (ℕ → List ℕ) → (ℕ → List ℕ) → Option ℕ → Type 0
DoesMerge tree u j old new (Some freed) = MergesCouple tree u j freed old new
DoesMerge tree u j old new None = (CanMerge tree old u j → ⊥) × (new ≡ old)
