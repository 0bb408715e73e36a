-- What a page tells a descent.
use Rattle.std.specs.Prelude.{◌≡◌, ◌≢◌, ℕ, ◌<◌, ◌-◌, List, [], length, take, map, slice_index_or}
use Rattle.page_format.specs.Words.{level_of, records_of}
use Rattle.page_format.specs.Shape.{AreRising}
use Rattle.law_flat_tree.specs.Pages.{child_of}
use Rattle.btree.specs.declared.tree.Tree.{Tree}
use Rattle.btree.specs.declared.tree.Bound.TheVariants.{Above}
use Rattle.btree.specs.declared.page.Down.{Down}
use Rattle.btree.specs.declared.page.Down.TheVariants.{Leaf, Child}
use Rattle.btree.specs.Layout.{IsLaidOut}
use Rattle.btree.specs.Places.{record_passes, StartsAt}

-- The page can be read: its records are laid out, and an inner page has one.
pub record IsReadable (tree : Tree) (bytes : List ℕ) : Type 0 where
  pub laid_out : IsLaidOut tree bytes
  pub some : level_of bytes ≢ 0 → 0 < length (records_of bytes)

-- The child of the last record whose key isn't above this one, or else of the first record.
pub record IsChildFor (key_len : ℕ) (key : List ℕ) (records : List (List ℕ)) (child : ℕ) : Type 0 where
  pub some : 0 < length records
  pub place : ℕ
  pub starts : StartsAt (record_passes key_len Above key) records place
  pub child_is : child ≡ child_of key_len (slice_index_or records (place - 1) [])

abbrev pub Leads : Tree → List ℕ → List ℕ → Down → Type 0
Leads tree key bytes Leaf = level_of bytes ≡ 0
Leads tree key bytes (Child child) =
    (level_of bytes ≢ 0) × (AreRising (map (take tree.key_len) (records_of bytes)) → IsChildFor tree.key_len key (records_of bytes) child)
