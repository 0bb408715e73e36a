-- What a record makes of a page, and which records and groups a file of so many pages may have.
use Rattle.std.specs.Prelude.{◌≡◌, ℕ, ◌<◌, ◌≤◌, ◌==◌, ◌&&◌, if◌then◌else◌, nat_lt, IsTrue, Option, Some, None, List, length, All}
use Rattle.std.specs.List.{list_any}
use Rattle.stored_pages.specs.Words.{lsn_of}
use Rattle.log_format.specs.declared.group.Group.{Group}
use Rattle.log_format.specs.declared.group.Record.{Record}
use Rattle.log_format.specs.declared.group.Record.TheVariants.{Put, Fresh, RowPut, RowRemove, NewTable}
use Rattle.log_format.specs.Group.{IsRecord}
use Rattle.mini_txn.specs.Edits.{edited_by, edited}
use Rattle.mini_txn.specs.View.{stamped}
use Rattle.law_logged_pages.specs.Applied.{is_of, names, page_after}
use Rattle.page_recovery.specs.Pages.{BecomeBy}

-- the record's edit, where the page is older than its group
abbrev pub edited_below : ℕ → Record → ℕ → List ℕ → List ℕ
edited_below lsn r page bytes = if nat_lt (lsn_of bytes) lsn then edited_by page bytes r else bytes

-- the page once these records were applied
abbrev pub edited_so_far : ℕ → List Record → ℕ → List ℕ → List ℕ
edited_so_far lsn rs page bytes = if nat_lt (lsn_of bytes) lsn then edited page rs bytes else bytes

-- that page gets its number and the LSN, where it is older
abbrev pub stamped_at : ℕ → ℕ → ℕ → List ℕ → List ℕ
stamped_at here lsn page bytes = if here == page && nat_lt (lsn_of bytes) lsn then stamped page lsn bytes else bytes

-- the stamp of the group, where the record is one of the page, and the page is older
abbrev pub stamped_below : ℕ → Record → ℕ → List ℕ → List ℕ
stamped_below lsn r page bytes = if is_of page r && nat_lt (lsn_of bytes) lsn then stamped page lsn bytes else bytes

-- the page once it was stamped for these records
abbrev pub stamped_so_far : ℕ → List Record → ℕ → List ℕ → List ℕ
stamped_so_far lsn rs page bytes = if list_any (is_of page) rs && nat_lt (lsn_of bytes) lsn then stamped page lsn bytes else bytes

-- the record's page, if it is one of a page, is among the first so many
abbrev pub IsWithin : ℕ → Record → Type 0
IsWithin count (Put page at bytes) = page < count
IsWithin count (Fresh page) = page < count
IsWithin count (RowPut table row) = Unit {0}
IsWithin count (RowRemove table key) = Unit {0}
IsWithin count (NewTable schema) = Unit {0}

-- the record is one of that page, which isn't among them
abbrev pub IsPast : ℕ → ℕ → Record → Type 0
IsPast count page r = (count ≤ page) × IsTrue (is_of page r)

-- some record is
abbrev pub ArePast : ℕ → ℕ → List Record → Type 0
ArePast count page records = (count ≤ page) × IsTrue (list_any (is_of page) records)

-- some group has such a record
abbrev pub NamesPast : ℕ → ℕ → List Group → Type 0
NamesPast count page groups = (count ≤ page) × IsTrue (list_any (names page) groups)

-- a record that may be applied to so many pages
abbrev pub MayApply : ℕ → Record → Type 0
MayApply count r = IsRecord r × IsWithin count r

abbrev pub MayApplyAll : ℕ → List Record → Type 0
MayApplyAll count records = All (MayApply count) records

abbrev pub AreWithin : ℕ → List Group → Type 0
AreWithin count groups = All (λ g. All (IsWithin count) g.records) groups

-- The pages after these groups; or some group has named that page, which isn't among them.
abbrev pub AreBroughtOn : List (Option (List ℕ)) → List Group → Option ℕ → List (Option (List ℕ)) → Type 0
AreBroughtOn start groups None pages = AreWithin (length start) groups × BecomeBy (λ page bytes. page_after page groups bytes) start pages
AreBroughtOn start groups (Some page) pages = NamesPast (length start) page groups × (length pages ≡ length start)
