-- A page of a tree that is split, by its bytes, and the tree afterwards.
use Rattle.std.specs.Prelude.{◌≡◌, ◌≢◌, ℕ, suc, ◌<◌, ◌^◌, List, [], ◌∷◌, ◌++◌, Some, length, take, drop, insert, slice_index_or}
use Rattle.std.specs.Int.{w32, to_be_bytes}
use Rattle.std.specs.List.{AllByRecursion}
use Rattle.page_format.specs.Words.{level_of, low_of, high_of, right_of, records_of}
use Rattle.page_format.specs.Changes.{KeepsFields}
use Rattle.law_flat_tree.specs.Levels.{Fence}
use Rattle.law_flat_tree.specs.Leaves.{AreOthers}
use Rattle.law_flat_tree.specs.Trees.{IsTree, nodes, levels_from, all_pairs}

-- The page is one of these levels' no page: it is free to be taken.
abbrev pub StandsNowhere : ℕ → List (List ℕ) → Type 0
StandsNowhere page levels = AllByRecursion (λ level. AreOthers page level) levels

-- Where a page stands: on the level below `upper`, as the child of the entry behind `e` of the page u there.
pub record IsChildAt (key_len : ℕ) (pages : ℕ → List ℕ) (levels tops : List (List ℕ)) (upper lower : List ℕ) (under : List (List ℕ)) (u p : ℕ)
    (e f : List (Fence × ℕ)) : Type 0 where
  pub at : levels ≡ tops ++ upper ∷ lower ∷ under
  pub cs : List ℕ
  pub ds : List ℕ
  pub parents : upper ≡ cs ++ u ∷ ds
  pub fence : Fence
  pub entries : (nodes key_len pages u).entries ≡ e ++ (fence, p) ∷ f

-- The page keeps its place but for its end, and the records before the i-th: it ends at the key, where the page of that number follows.
pub record IsLowerPart (old : List ℕ) (i : ℕ) (key : List ℕ) (number : ℕ) (new : List ℕ) : Type 0 where
  pub level : level_of new ≡ level_of old
  pub records : records_of new ≡ take i (records_of old)
  pub low : low_of new ≡ low_of old
  pub high : high_of new ≡ Some key
  pub right : right_of new ≡ number

-- The page takes the place from the key on, and the records from the i-th on.
pub record IsUpperPart (old : List ℕ) (i : ℕ) (key new : List ℕ) : Type 0 where
  pub level : level_of new ≡ level_of old
  pub records : records_of new ≡ drop i (records_of old)
  pub low : low_of new ≡ Some key
  pub high : high_of new ≡ high_of old
  pub right : right_of new ≡ right_of old

-- Page p is cut at its i-th record, which begins with the key; the parent gets a record for page q behind its j-th; no other page changes.
pub record SplitsPage (key : List ℕ) (i j u p q : ℕ) (old new : ℕ → List ℕ) : Type 0 where
  pub some : 0 < i
  pub within : i < length (records_of (old p))
  pub key_is : key ≡ take (length key) (slice_index_or (records_of (old p)) i [])
  pub lower : IsLowerPart (old p) i key q (new p)
  pub upper : IsUpperPart (old p) i key (new q)
  pub fits : q < 2 ^ 32
  pub kept : KeepsFields (old u) (new u)
  pub parent : records_of (new u) ≡ insert (records_of (old u)) (suc j) (key ++ to_be_bytes w32 q)
  pub others : (r : ℕ) → r ≢ u → r ≢ p → r ≢ q → new r ≡ old r

-- The pages are a tree with the same pairs, and page q stands behind page p.
pub record IsSplitTree (key_len : ℕ) (old new : ℕ → List ℕ) (root : ℕ) (before tops : List (List ℕ)) (upper lower : List ℕ) (under : List (List ℕ))
    (p q : ℕ) : Type 0 where
  pub xs : List ℕ
  pub ys : List ℕ
  pub stood : lower ≡ xs ++ p ∷ ys
  pub lows : List (List ℕ)
  pub stands : levels_from root lows ≡ tops ++ upper ∷ (xs ++ p ∷ q ∷ ys) ∷ under
  pub tree : IsTree key_len new root lows
  pub pairs : all_pairs key_len new root lows ≡ all_pairs key_len old root before
