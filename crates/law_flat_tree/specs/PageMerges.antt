-- Two neighbours below one parent that become one page, by their bytes, and the tree afterwards.
use Rattle.std.specs.Prelude.{◌≡◌, ◌≢◌, ◌⊎◌, ℕ, suc, List, [], ◌∷◌, ◌++◌, Some, take, remove, slice_index_or}
use Rattle.page_format.specs.Words.{level_of, low_of, high_of, right_of, records_of}
use Rattle.page_format.specs.Changes.{KeepsFields}
use Rattle.law_flat_tree.specs.Levels.{Fence}
use Rattle.law_flat_tree.specs.Trees.{IsTree, nodes, levels_from, all_pairs}

-- Where two neighbours stand: on the level below `upper`, as the children of two entries behind `e` of the page u there.
pub record AreChildrenAt (key_len : ℕ) (pages : ℕ → List ℕ) (levels tops : List (List ℕ)) (upper lower : List ℕ) (under : List (List ℕ))
    (u p q : ℕ) (e f : List (Fence × ℕ)) : Type 0 where
  pub at : levels ≡ tops ++ upper ∷ lower ∷ under
  pub cs : List ℕ
  pub ds : List ℕ
  pub parents : upper ≡ cs ++ u ∷ ds
  pub one : Fence
  pub other : Fence
  pub entries : (nodes key_len pages u).entries ≡ e ++ (one, p) ∷ (other, q) ∷ f

-- Page p gets the records of page q behind its own, with its high fence and neighbour; the parent loses the record of q; of
-- page q nothing is said, and no other page changes. The first record of an inner page q begins with its low fence.
pub record MergesPages (key_len j u p q : ℕ) (old new : ℕ → List ℕ) : Type 0 where
  pub low : low_of (new p) ≡ low_of (old p)
  pub high : high_of (new p) ≡ high_of (old q)
  pub right : right_of (new p) ≡ right_of (old q)
  pub level : level_of (new p) ≡ level_of (old p)
  pub records : records_of (new p) ≡ records_of (old p) ++ records_of (old q)
  pub begins : (level_of (old q) ≡ 0) ⊎ (low_of (old q) ≡ Some (take key_len (slice_index_or (records_of (old q)) 0 [])))
  pub kept : KeepsFields (old u) (new u)
  pub parent : records_of (new u) ≡ remove (records_of (old u)) (suc j)
  pub others : (r : ℕ) → r ≢ u → r ≢ p → r ≢ q → new r ≡ old r

-- The pages are a tree with the same pairs, and page q stands in it no longer.
pub record IsMergedTree (key_len : ℕ) (old new : ℕ → List ℕ) (root : ℕ) (before tops : List (List ℕ)) (upper lower : List ℕ) (under : List (List ℕ))
    (p q : ℕ) : Type 0 where
  pub xs : List ℕ
  pub ys : List ℕ
  pub stood : lower ≡ xs ++ p ∷ q ∷ ys
  pub lows : List (List ℕ)
  pub stands : levels_from root lows ≡ tops ++ upper ∷ (xs ++ p ∷ ys) ∷ under
  pub tree : IsTree key_len new root lows
  pub pairs : all_pairs key_len new root lows ≡ all_pairs key_len old root before
