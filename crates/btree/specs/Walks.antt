-- What leaves have for a search, from the leaf of its key to the right.
use Rattle.std.specs.Prelude.{◌≡◌, ℕ, ◌<◌, Bool, true, false, List, [], ◌++◌, length, take, map, Option, None, Some, IfSome, Result, Ok, Err}
use Rattle.store_api.specs.declared.visits.Visit.{Visit}
use Rattle.std.specs.List.{slice_get}
use Rattle.entries.specs.Pairs.{Pair}
use Rattle.entries.specs.Calls.{HasKey}
use Rattle.page_format.specs.Words.{level_of, right_of, records_of}
use Rattle.page_format.specs.Shape.{AreRising}
use Rattle.law_flat_tree.specs.Levels.{head_or}
use Rattle.law_flat_tree.specs.Leaves.{first_held}
use Rattle.law_flat_tree.specs.Descents.{leaves_of}
use Rattle.law_flat_tree.specs.Pages.{leaf_pairs}
use Rattle.law_flat_tree.specs.Trees.{pairs_in}
use Rattle.btree.specs.declared.tree.Tree.{Tree}
use Rattle.btree.specs.declared.tree.Bound.{Bound}
use Rattle.btree.specs.declared.leaf.Met.{Met}
use Rattle.btree.specs.declared.leaf.Met.TheVariants.{Here, Beyond}
use Rattle.btree.specs.declared.leaf.Spot.{Spot}
use Rattle.btree.specs.Layout.{IsLaidOut}
use Rattle.btree.specs.Places.{record_passes, StartsAt}
use Rattle.btree.specs.Sound.{levels_of}

-- The page can be read as a leaf.
pub record IsReadableLeaf (tree : Tree) (bytes : List ℕ) : Type 0 where
  pub laid_out : IsLaidOut tree bytes
  pub leaf : level_of bytes ≡ 0

-- the first record that passes, or that none does, and where the leaf to the right is
abbrev pub Meets : Tree → Bound → List ℕ → List ℕ → Met → Type 0
Meets tree bound key bytes (Here place) =
    (place < length (records_of bytes))
    × (AreRising (map (take tree.key_len) (records_of bytes)) → StartsAt (record_passes tree.key_len bound key) (records_of bytes) place)
Meets tree bound key bytes (Beyond page) =
    (page ≡ right_of bytes)
    × (AreRising (map (take tree.key_len) (records_of bytes))
    → StartsAt (record_passes tree.key_len bound key) (records_of bytes) (length (records_of bytes)))

-- the first record of all, or that there is none
abbrev pub Begins : List ℕ → Met → Type 0
Begins bytes (Here place) = (place ≡ 0) × (0 < length (records_of bytes))
Begins bytes (Beyond page) = (page ≡ right_of bytes) × (records_of bytes ≡ [])

-- The page is a leaf that has a record at this place.
pub record HasRow (tree : Tree) (place : ℕ) (bytes : List ℕ) : Type 0 where
  pub readable : IsReadableLeaf tree bytes
  pub inside : place < length (records_of bytes)

abbrev pub IsSpot : Tree → (ℕ → List ℕ) → Spot → Type 0
IsSpot tree pages spot = HasRow tree spot.place (pages spot.page)

-- the pair that stands there
abbrev pub pair_at : Tree → (ℕ → List ℕ) → Option Spot → Option Pair
pair_at tree pages None = None
pair_at tree pages (Some spot) = slice_get (leaf_pairs tree.key_len (pages spot.page)) spot.place

-- The leaves from this page on are the last ones of the tree's.
pub record AreRest (tree : Tree) (pages : ℕ → List ℕ) (page : ℕ) (ys : List ℕ) : Type 0 where
  pub xs : List ℕ
  pub whole : leaves_of (levels_of tree pages) ≡ xs ++ ys
  pub first : page ≡ head_or 0 ys

-- The spot is where this pair stands, or there is none.
pub record Shows (tree : Tree) (pages : ℕ → List ℕ) (pair : Option Pair) (found : Option Spot) : Type 0 where
  pub same : pair_at tree pages found ≡ pair
  pub spot : IfSome found (IsSpot tree pages)

-- the first pair of these leaves
abbrev pub first_in : Tree → (ℕ → List ℕ) → List ℕ → Option Pair
first_in tree pages ys = first_held (pairs_in tree.key_len pages) ys

-- whether a row was found
abbrev pub is_found : Result Bool Visit → Bool
is_found (Ok found) = found
is_found (Err why) = false

-- the row that was read, or that there is none
abbrev pub IsRow : Bool → List ℕ → List ℕ → Option Pair → Type 0
IsRow true key value pair = pair ≡ Some (key, value)
IsRow false key value pair = pair ≡ None

-- the key that was read is that of the pair, or there is none
abbrev pub IsNextKey : Bool → List ℕ → Option Pair → Type 0
IsNextKey true key pair = HasKey key pair
IsNextKey false key pair = pair ≡ None
