use Rattle.std.proofs.Common.{[], ◌∷◌, length}
use Rattle.schema_codec.specs.Schema.{column_bytes}
use Rattle.schema_codec.proofs.Puts.{PutSoFar}
use Rattle.schema_codec.proofs.write.put_columns.Given as goal

abbrev pub invariant-loop-item : goal.invariant-loop-item
invariant-loop-item l = PutSoFar column_bytes l.items (length l.items ∷ []) l.fn.out l.item-index l.out
