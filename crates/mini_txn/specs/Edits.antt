-- The records of a mini-transaction, and what they make of a page.
use Rattle.std.specs.Prelude.{◌≡◌, ℕ, ◌-◌, ◌*◌, ◌≤◌, ◌==◌, List, [], length, fold, replicate, if◌then◌else◌}
use Rattle.std.specs.List.{flat_map, AllByRecursion}
use Rattle.std.specs.Option.{option_map_or}
use Rattle.stored_pages.specs.declared.layout.TheConstants.{PAGE}
use Rattle.schema_codec.specs.Reading.{list_at}
use Rattle.log_format.specs.declared.group.Record.{Record}
use Rattle.log_format.specs.declared.group.Record.TheVariants.{Put, Fresh, RowPut, RowRemove, NewTable}
use Rattle.log_format.specs.Group.{record_bytes, IsRecord}
use Rattle.log_format.specs.Reading.{record_at}
use Rattle.mtr.specs.Seen.{with_bytes}

-- a page of zeros
unfoldable pub blank : List ℕ
blank = replicate PAGE 0

-- what a record makes of a page's bytes
abbrev pub edited_by : ℕ → List ℕ → Record → List ℕ
edited_by page bytes (Put other at piece) = if other == page then with_bytes at piece bytes else bytes
edited_by page bytes (Fresh other) = if other == page then blank else bytes
edited_by page bytes (RowPut table row) = bytes
edited_by page bytes (RowRemove table key) = bytes
edited_by page bytes (NewTable schema) = bytes

-- what records make of them, in their order
abbrev pub edited : ℕ → List Record → List ℕ → List ℕ
edited page records bytes = fold (edited_by page) bytes records

-- so much may still be put for certain
abbrev pub spare_of : List Record → ℕ
spare_of records = 131072 - length (flat_map record_bytes records)

-- the records that stand in the bytes, so many one behind the other
abbrev pub kept : ℕ → List ℕ → List Record
kept count bytes = option_map_or (λ read. read.0) (list_at record_at count bytes) []

-- The bytes spell the records, and there is room for as many as may be put.
pub record AreKept (records : List Record) (count : ℕ) (bytes : List ℕ) (capacity : ℕ) : Type 0 where
  pub each : AllByRecursion IsRecord records
  pub bytes_are : bytes ≡ flat_map record_bytes records
  pub number : count ≡ length records
  pub few : 5 * length records ≤ length bytes
  pub fits : length bytes ≤ 131072
  pub room : 131072 ≤ capacity
