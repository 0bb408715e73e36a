use Rattle.std.proofs.Common.{◌≡◌, ◌+◌, ◌*◌, ◌≤◌, take}
use Rattle.std.specs.Prelude.{sum_by}
use Rattle.key_codec.specs.Keys.{key_width}
use Rattle.inno_types.specs.declared.value.Column.{Column}
use Rattle.engine.proofs.tables.fields_len.Given as goal

abbrev pub invariant-loop-column : goal.invariant-loop-column
invariant-loop-column l = record {
  sum : l.len ≡ sum_by (λ (column : Column). 1 + key_width column.kind) (take l.column-index l.columns);
  small : l.len ≤ 257 * l.column-index;
}
