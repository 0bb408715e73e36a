use Rattle.std.proofs.Common.{[], ◌∷◌, length}
use Rattle.log_format.specs.Group.{value_bytes}
use Rattle.schema_codec.proofs.Puts.{PutSoFar}
use Rattle.log_format.proofs.write.put_values.Given as goal

abbrev pub invariant-loop-item : goal.invariant-loop-item
invariant-loop-item l = PutSoFar value_bytes l.items (length l.items ∷ []) l.fn.out l.item-index l.out
