use Rattle.std.proofs.Common.{◌≡◌, ◌++◌}
use Rattle.std.specs.Iterator.Adapters.{zip_first, zip_second}
use Rattle.std.specs.Slice.Iter.{iter_rest}
use Rattle.row_codec.specs.Rows.{IsRowOf, fields_code}
use Rattle.row_codec.proofs.fields.put_fields.Given as goal

-- the fields that are left complete the whole
abbrev pub invariant-loop-column : goal.invariant-loop-column
invariant-loop-column l = record {
  can : (goal.iterator-loop-column).can_next l.column-iterator;
  finite : (goal.iterator-loop-column).is_finite l.column-iterator;
  left : IsRowOf (iter_rest (zip_first l.column-iterator)) (iter_rest (zip_second l.column-iterator));
  whole : l.out.items ++ fields_code (iter_rest (zip_first l.column-iterator)) (iter_rest (zip_second l.column-iterator)) ≡ l.fn.out.items ++ fields_code l.fn.columns l.fn.row;
}
