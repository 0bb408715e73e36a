-- What the bytes of two pages say once a root got a level below it.
use Rattle.std.specs.Prelude.{◌≡◌, ◌≢◌, ℕ, suc, ◌+◌, List, [], ◌∷◌, ◌++◌, drop, replicate}
use Rattle.std.specs.Int.{w32, to_be_bytes}
use Rattle.page_format.specs.Words.{level_of, index_of, record_len_of, low_of, high_of, right_of, records_of}
use Rattle.page_format.specs.Shape.{HasTreeFields}
use Rattle.btree.specs.declared.tree.Tree.{Tree}

-- a record that begins with zeros, as low as any key, and leads to the page of that number
abbrev pub lowest_record : ℕ → ℕ → List ℕ
lowest_record key_len number = replicate key_len 0 ++ to_be_bytes w32 number

-- The page stands where the old one stood, on that level, and leads to the page of that number alone.
pub record IsRaised (key_len number level : ℕ) (old new : List ℕ) : Type 0 where
  pub fields : HasTreeFields new
  pub level_is : level_of new ≡ level
  pub index : index_of new ≡ index_of old
  pub width : record_len_of new ≡ key_len + 4
  pub records : records_of new ≡ lowest_record key_len number ∷ []
  pub low : low_of new ≡ low_of old
  pub high : high_of new ≡ high_of old
  pub right : right_of new ≡ right_of old

-- What the root had stands on page q, and the root, one level higher, keeps its number and leads to that page; no other page changes.
pub record RaisesTree (tree : Tree) (q : ℕ) (old new : ℕ → List ℕ) : Type 0 where
  pub moved : drop 20 (new q) ≡ drop 20 (old tree.root)
  pub root : IsRaised tree.key_len q (suc (level_of (old tree.root))) (old tree.root) (new tree.root)
  pub others : (r : ℕ) → r ≢ tree.root → r ≢ q → new r ≡ old r
