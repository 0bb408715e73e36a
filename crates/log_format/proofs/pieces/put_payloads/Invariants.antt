use Rattle.std.proofs.Common.{vec_capacity}
use Rattle.log_format.proofs.Scanned.{PiecesSoFar}
use Rattle.log_format.proofs.pieces.put_payloads.Given as goal

abbrev pub invariant-loop-at : goal.invariant-loop-at
invariant-loop-at l = PiecesSoFar l.run l.number l.bytes l.fn.out.items l.out.items (vec_capacity l.out) l.at
