-- How the records of a tree's page are laid out.
use Rattle.std.specs.Prelude.{◌≡◌, ℕ, ◌+◌, ◌*◌, ◌≤◌, List, ◌==◌, if◌then◌else◌}
use Rattle.stored_pages.specs.declared.layout.TheConstants.{PAGE}
use Rattle.page_format.specs.declared.layout.TheConstants.{RECORDS}
use Rattle.page_format.specs.Words.{level_of, count_of, record_len_of}
use Rattle.btree.specs.declared.tree.Tree.{Tree}

-- how many bytes a record has: a key, and a value or the number of a child
abbrev pub width_of : Tree → ℕ → ℕ
width_of tree level = tree.key_len + (if level == 0 then tree.value_len else 4)

-- The records are as long as the tree's on that level, and lie within the page.
pub record IsLaidOut (tree : Tree) (bytes : List ℕ) : Type 0 where
  pub width : record_len_of bytes ≡ width_of tree (level_of bytes)
  pub inside : RECORDS + count_of bytes * record_len_of bytes ≤ PAGE
