-- A page that is to be cut, its parent, and the page that was taken for its upper half.
use Rattle.std.specs.Prelude.{◌≡◌, ◌≢◌, ℕ, suc, ◌<◌, List, [], ◌∷◌, length, take, slice_index_or}
use Rattle.stored_pages.specs.declared.layout.TheConstants.{PAGE, PAGE_COUNT}
use Rattle.page_format.specs.Words.{records_of}
use Rattle.stored_pages.specs.Words.{u32_at}
use Rattle.page_format.specs.Shape.{HasTreeFields}
use Rattle.mtr.specs.Seen.{IsShown}
use Rattle.btree.specs.declared.tree.Tree.{Tree}
use Rattle.btree_split.specs.Halves.{child_under}
use Rattle.btree_grow.specs.declared.splits.Cut.{Cut}
use Rattle.btree_grow.specs.Grown.{StandsAbove}

-- the key that the record of that number begins with
abbrev pub fence_at : Tree → List ℕ → ℕ → List ℕ
fence_at tree bytes i = take tree.key_len (slice_index_or (records_of bytes) i [])

-- The bytes that were read show the parent and the page, and the three pages are apart.
pub record IsCut (cut : Cut) (number : ℕ) (above bytes : List ℕ) (pages : ℕ → List ℕ) : Type 0 where
  pub parent_shown : IsShown (pages cut.parent) above
  pub child_shown : IsShown (pages cut.child) bytes
  pub blank : length (pages number) ≡ PAGE
  pub parent_fields : HasTreeFields (pages cut.parent)
  pub child_fields : HasTreeFields (pages cut.child)
  pub child_apart : cut.child ≢ cut.parent
  pub number_apart : number ≢ cut.parent
  pub halves_apart : number ≢ cut.child
  pub some_parent : cut.parent ≢ 0
  pub some_child : cut.child ≢ 0
  pub some_number : number ≢ 0
  pub parent_counted : cut.parent < u32_at PAGE_COUNT (pages 0)
  pub child_counted : cut.child < u32_at PAGE_COUNT (pages 0)
  pub number_counted : number < u32_at PAGE_COUNT (pages 0)

-- The parent has room, the page is the next one on the way of the key, and the bytes that were read show both.
pub record IsReady (tree : Tree) (key : List ℕ) (n : ℕ) (cut : Cut) (above bytes : List ℕ) (pages : ℕ → List ℕ) : Type 0 where
  pub stands : StandsAbove tree key (suc n) cut.parent pages
  pub rest : List ℕ
  pub next : stands.way ≡ cut.child ∷ rest
  pub child_is : cut.child ≡ child_under tree.key_len pages cut.parent cut.place
  pub parent_shown : IsShown (pages cut.parent) above
  pub child_shown : IsShown (pages cut.child) bytes
