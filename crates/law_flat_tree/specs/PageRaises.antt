-- A root that gets a level below it, by its bytes.
use Rattle.std.specs.Prelude.{◌≡◌, ◌≢◌, ℕ, suc, List, [], ◌∷◌}
use Rattle.page_format.specs.Words.{level_of, low_of, high_of, right_of, records_of}
use Rattle.law_flat_tree.specs.Pages.{child_of}

-- The new page has what the root had, and the root, a level higher, has one record alone, which leads to that page; no other page changes.
pub record RaisesRoot (key_len root page : ℕ) (old new : ℕ → List ℕ) : Type 0 where
  pub moved_low : low_of (new page) ≡ low_of (old root)
  pub moved_high : high_of (new page) ≡ high_of (old root)
  pub moved_right : right_of (new page) ≡ right_of (old root)
  pub moved_level : level_of (new page) ≡ level_of (old root)
  pub moved_records : records_of (new page) ≡ records_of (old root)
  pub low : low_of (new root) ≡ low_of (old root)
  pub high : high_of (new root) ≡ high_of (old root)
  pub right : right_of (new root) ≡ right_of (old root)
  pub level : level_of (new root) ≡ suc (level_of (old root))
  pub one : List ℕ
  pub records : records_of (new root) ≡ one ∷ []
  pub leads : child_of key_len one ≡ page
  pub others : (r : ℕ) → r ≢ root → r ≢ page → new r ≡ old r
