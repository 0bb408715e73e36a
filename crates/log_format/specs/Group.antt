-- How groups are spelled. All numbers are big-endian.
use Rattle.std.specs.Prelude.{◌≡◌, ℕ, ◌+◌, ◌^◌, ◌<◌, ◌≤◌, List, ◌∷◌, [], ◌++◌, length, All}
use Rattle.std.specs.List.{flat_map}
use Rattle.std.specs.Prelude.{FitsSigned}
use Rattle.std.specs.Int.{w64, cast_unsigned}
use Rattle.inno_types.specs.declared.value.Value.{Value}
use Rattle.inno_types.specs.declared.value.Value.TheVariants.{Null, Int, Text}
use Rattle.schema_codec.specs.Numbers.{u16_bytes, u32_bytes, u64_bytes}
use Rattle.schema_codec.specs.Schema.{counted, IsCounted, name_bytes, IsName, schema_bytes, IsSchema}
use Rattle.log_format.specs.declared.group.Group.{Group}
use Rattle.log_format.specs.declared.group.Record.{Record}
use Rattle.log_format.specs.declared.group.Record.TheVariants.{Put, Fresh, RowPut, RowRemove, NewTable}

-- ---- values

-- a number stands in two's complement
abbrev pub value_bytes : Value → List ℕ
value_bytes Null = 0 ∷ []
value_bytes (Int z) = 1 ∷ u64_bytes (cast_unsigned w64 z)
value_bytes (Text text) = 2 ∷ name_bytes text

abbrev pub IsValue : Value → Type 0
IsValue Null = Unit {0}
IsValue (Int z) = FitsSigned w64 z
IsValue (Text text) = IsName text

-- ---- records

-- The kind of the record, and then: of a put the page, the place, how many bytes there are, and themselves; of a fresh
-- page the page; of a change before there are pages its own kind, and the table with its row or key, or the schema.
abbrev pub record_bytes : Record → List ℕ
record_bytes (Put page at bytes) = 1 ∷ u32_bytes page ++ u16_bytes at ++ u16_bytes (length bytes) ++ bytes
record_bytes (Fresh page) = 2 ∷ u32_bytes page
record_bytes (RowPut table row) = 3 ∷ 1 ∷ table ∷ counted value_bytes row
record_bytes (RowRemove table key) = 3 ∷ 2 ∷ table ∷ 1 ∷ value_bytes key
record_bytes (NewTable schema) = 3 ∷ 3 ∷ schema_bytes schema

-- The numbers fit their fields, and what is put lies in its page, past the page's sum, number and LSN.
abbrev pub IsRecord : Record → Type 0
IsRecord (Put page at bytes) = (page < 2 ^ 32) × (20 ≤ at) × (at + length bytes ≤ 4096)
IsRecord (Fresh page) = page < 2 ^ 32
IsRecord (RowPut table row) = (table < 256) × IsCounted IsValue row
IsRecord (RowRemove table key) = (table < 256) × IsValue key
IsRecord (NewTable schema) = IsSchema schema

-- ---- groups

-- what the length before it counts: the LSN, the number of records, and the records
unfoldable pub body : Group → List ℕ
body g = u64_bytes g.lsn ++ u16_bytes (length g.records) ++ flat_map record_bytes g.records

unfoldable pub group_bytes : Group → List ℕ
group_bytes g = u32_bytes (length (body g)) ++ body g

-- records that may stand in one group
pub record AreRecords (records : List Record) : Type 0 where
  pub count : length records < 2 ^ 16
  pub each : All IsRecord records

-- these bytes spell them, so many, one behind the other
pub record IsSpelled (records : List Record) (count : ℕ) (bytes : List ℕ) : Type 0 where
  pub are : AreRecords records
  pub number : count ≡ length records
  pub spelled : bytes ≡ flat_map record_bytes records

-- a group that has a spelling
pub record IsGroup (g : Group) : Type 0 where
  pub lsn : g.lsn < 2 ^ 64
  pub count : length g.records < 2 ^ 16
  pub size : length (body g) < 2 ^ 32
  pub each : All IsRecord g.records

-- groups whose LSNs rise by one from the first
abbrev pub AreGroups : ℕ → List Group → Type 0
AreGroups first [] = Unit {0}
AreGroups first (g ∷ gs) = (g.lsn ≡ first) × IsGroup g × AreGroups (first + 1) gs
