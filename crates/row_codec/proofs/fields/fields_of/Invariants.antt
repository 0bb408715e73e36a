use Rattle.std.proofs.Common.{◌≡◌, List, ◌++◌, take}
use Rattle.std.specs.Prelude.{All}
use Rattle.inno_types.specs.declared.value.Value.{Value}
use Rattle.key_codec.specs.Keys.{Has64Bits}
use Rattle.row_codec.specs.Reads.{Reads}
use Rattle.row_codec.proofs.fields.fields_of.Given as goal

-- the fields of the columns before the place were read
abbrev pub invariant-loop-column : goal.invariant-loop-column
invariant-loop-column l = record {
  read : (values : List Value) × (l.row.items ≡ l.fn.row.items ++ values) × Reads (take l.column-index l.columns) l.bytes values l.rest;
  range : All Has64Bits l.fn.row.items → All Has64Bits l.row.items;
}
