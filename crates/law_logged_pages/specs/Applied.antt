-- What groups of the log make of a page, by LSN.
use Rattle.std.specs.Prelude.{ℕ, Bool, false, ◌&&◌, ◌==◌, if◌then◌else◌, nat_lt, List, [], ◌∷◌, take}
use Rattle.std.specs.List.{list_any}
use Rattle.stored_pages.specs.Words.{lsn_of}
use Rattle.log_format.specs.declared.group.Group.{Group}
use Rattle.log_format.specs.declared.group.Record.{Record}
use Rattle.log_format.specs.declared.group.Record.TheVariants.{Put, Fresh, RowPut, RowRemove, NewTable}
use Rattle.mini_txn.specs.Edits.{edited}
use Rattle.mini_txn.specs.View.{stamped}

-- the record is one of that page
abbrev pub is_of : ℕ → Record → Bool
is_of page (Put other at bytes) = other == page
is_of page (Fresh other) = other == page
is_of page (RowPut table row) = false
is_of page (RowRemove table key) = false
is_of page (NewTable schema) = false

-- some record of the group is one of that page
abbrev pub names : ℕ → Group → Bool
names page g = list_any (is_of page) g.records

-- A group's records are applied where the page's LSN is below the group's, and the page then has that LSN.
unfoldable pub with_group : ℕ → Group → List ℕ → List ℕ
with_group page g bytes = if names page g && nat_lt (lsn_of bytes) g.lsn then stamped page g.lsn (edited page g.records bytes) else bytes

-- the page as these groups leave it, one after the other
abbrev pub page_after : ℕ → List Group → List ℕ → List ℕ
page_after page [] bytes = bytes
page_after page (g ∷ more) bytes = page_after page more (with_group page g bytes)

-- the page after the first so many groups of a run at whose beginning the pages stood so
abbrev pub logical : (ℕ → List ℕ) → List Group → ℕ → ℕ → List ℕ
logical base groups count page = page_after page (take count groups) (base page)
