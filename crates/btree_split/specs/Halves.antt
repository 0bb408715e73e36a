-- What the bytes of three pages say once a page was split.
use Rattle.std.specs.Prelude.{◌≡◌, ◌≢◌, ℕ, suc, ◌^◌, ◌<◌, List, [], ◌++◌, length, take, insert, slice_index_or}
use Rattle.std.specs.Int.{w32, to_be_bytes}
use Rattle.stored_pages.specs.declared.layout.TheConstants.{PAGE, PAGE_COUNT}
use Rattle.store_api.specs.declared.limits.TheConstants.{MOST_PAGES}
use Rattle.page_format.specs.Words.{index_of, record_len_of, records_of}
use Rattle.stored_pages.specs.Words.{u32_at}
use Rattle.page_format.specs.Shape.{HasTreeFields}
use Rattle.page_format.specs.Changes.{KeepsFields}
use Rattle.space_map.specs.Map.{mark_of}
use Rattle.law_flat_tree.specs.Pages.{child_of}
use Rattle.law_flat_tree.specs.PageSplits.{StandsNowhere, IsLowerPart, IsUpperPart}
use Rattle.btree.specs.declared.tree.Tree.{Tree}
use Rattle.btree.specs.Sound.{levels_of}

-- the page that the parent's record of that number leads to
abbrev pub child_under : ℕ → (ℕ → List ℕ) → ℕ → ℕ → ℕ
child_under key_len pages u j = child_of key_len (slice_index_or (records_of (pages u)) j [])

-- The page of that number is one of the file behind the first ones, it is marked as used, and it is no page of the tree.
pub record IsTakenFor (tree : Tree) (pages : ℕ → List ℕ) (q : ℕ) : Type 0 where
  pub free : StandsNowhere q (levels_of tree pages)
  pub beyond : 20 < q
  pub small : q < MOST_PAGES
  pub counted : q < u32_at PAGE_COUNT (pages 0)
  pub used : mark_of pages q ≡ 1

-- What a page is that got the lower half of another page's bytes, and one that got the upper half.
pub record IsLowerPut (old : List ℕ) (i : ℕ) (key : List ℕ) (number : ℕ) (new : List ℕ) : Type 0 where
  pub fields : HasTreeFields new
  pub index : index_of new ≡ index_of old
  pub width : record_len_of new ≡ record_len_of old
  pub part : IsLowerPart old i key number new

pub record IsUpperPut (old : List ℕ) (i : ℕ) (key new : List ℕ) : Type 0 where
  pub fields : HasTreeFields new
  pub index : index_of new ≡ index_of old
  pub width : record_len_of new ≡ record_len_of old
  pub part : IsUpperPart old i key new

-- Page p is cut at its i-th record, which begins with the key, page q gets what lies from there on, and the parent u gets a
-- record for page q behind its j-th; no other page changes.
pub record SplitsChild (tree : Tree) (key : List ℕ) (i j u p q : ℕ) (old new : ℕ → List ℕ) : Type 0 where
  pub size : length (old p) ≡ PAGE
  pub long : length key ≡ tree.key_len
  pub some : 0 < i
  pub within : i < length (records_of (old p))
  pub key_is : key ≡ take tree.key_len (slice_index_or (records_of (old p)) i [])
  pub lower : IsLowerPut (old p) i key q (new p)
  pub upper : IsUpperPut (old p) i key (new q)
  pub fits : q < 2 ^ 32
  pub parent_fields : HasTreeFields (new u)
  pub parent_records : records_of (new u) ≡ insert (records_of (old u)) (suc j) (key ++ to_be_bytes w32 q)
  pub parent_kept : KeepsFields (old u) (new u)
  pub others : (r : ℕ) → r ≢ u → r ≢ p → r ≢ q → new r ≡ old r
