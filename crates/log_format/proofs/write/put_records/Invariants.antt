use Rattle.std.proofs.Common.{[]}
use Rattle.log_format.specs.Group.{record_bytes}
use Rattle.schema_codec.proofs.Puts.{PutSoFar}
use Rattle.log_format.proofs.write.put_records.Given as goal

abbrev pub invariant-loop-item : goal.invariant-loop-item
invariant-loop-item l = PutSoFar record_bytes l.items [] l.fn.out l.item-index l.out
