-- Reading groups from left to right: a value and the bytes after it, or nothing where no value is spelled.
use Rattle.std.specs.Prelude.{ℕ, ◌+◌, List, length, Option, Some, None, nat_lt, ◌==◌, ◌||◌, if◌then◌else◌}
use Rattle.std.specs.Int.{w64, cast_signed}
use Rattle.inno_types.specs.declared.value.Value.{Value}
use Rattle.inno_types.specs.declared.value.Value.TheVariants.{Null, Int, Text}
use Rattle.schema_codec.specs.Reading.{◌>>=◌, u8_at, u16_at, u32_at, u64_at, bytes_at, both_at, list_at, counted_at, name_at, schema_at}
use Rattle.log_format.specs.declared.group.Group.{Group}
use Rattle.log_format.specs.declared.group.Record.{Record}
use Rattle.log_format.specs.declared.group.Record.TheVariants.{Put, Fresh, RowPut, RowRemove, NewTable}

unfoldable pub value_at : List ℕ → Option (Value × List ℕ)
value_at bytes = do
  kind ← u8_at bytes
  if kind.0 == 0 then Some (Null, kind.1) else if kind.0 == 1 then (u64_at kind.1 >>= λ n. Some (Int (cast_signed w64 n.0), n.1)) else if kind.0 == 2 then (name_at kind.1 >>= λ text. Some (Text text.0, text.1)) else None

-- ---- records

unfoldable pub put_at : List ℕ → Option (Record × List ℕ)
put_at bytes = do
  page ← u32_at bytes
  place ← u16_at page.1
  len ← u16_at place.1
  text ← bytes_at len.0 len.1
  if nat_lt place.0 20 || nat_lt 4096 (place.0 + len.0) then None else Some (Put page.0 place.0 text.0, text.1)

unfoldable pub fresh_at : List ℕ → Option (Record × List ℕ)
fresh_at bytes = do
  page ← u32_at bytes
  Some (Fresh page.0, page.1)

unfoldable pub row_put_at : List ℕ → Option (Record × List ℕ)
row_put_at bytes = do
  parts ← both_at u8_at (counted_at value_at) bytes
  Some (RowPut parts.0.0 parts.0.1, parts.1)

-- of one value
unfoldable pub row_remove_at : List ℕ → Option (Record × List ℕ)
row_remove_at bytes = do
  parts ← both_at (both_at u8_at u8_at) value_at bytes
  if parts.0.0.1 == 1 then Some (RowRemove parts.0.0.0 parts.0.1, parts.1) else None

unfoldable pub new_table_at : List ℕ → Option (Record × List ℕ)
new_table_at bytes = do
  schema ← schema_at bytes
  Some (NewTable schema.0, schema.1)

-- a change before there are pages
unfoldable pub change_at : List ℕ → Option (Record × List ℕ)
change_at bytes = do
  kind ← u8_at bytes
  if kind.0 == 1 then row_put_at kind.1 else if kind.0 == 2 then row_remove_at kind.1 else if kind.0 == 3 then new_table_at kind.1 else None

unfoldable pub record_at : List ℕ → Option (Record × List ℕ)
record_at bytes = do
  kind ← u8_at bytes
  if kind.0 == 1 then put_at kind.1 else if kind.0 == 2 then fresh_at kind.1 else if kind.0 == 3 then change_at kind.1 else None

-- ---- groups

-- all of the bytes
unfoldable pub body_at : List ℕ → Option Group
body_at bytes = do
  lsn ← u64_at bytes
  count ← u16_at lsn.1
  records ← list_at record_at count.0 count.1
  if length records.1 == 0 then Some (record { lsn = lsn.0; records = records.0 }) else None

unfoldable pub group_at : List ℕ → Option (Group × List ℕ)
group_at bytes = do
  len ← u32_at bytes
  text ← bytes_at len.0 len.1
  group ← body_at text.0
  Some (group, text.1)
