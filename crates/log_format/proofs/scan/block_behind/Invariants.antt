use Rattle.log_format.proofs.Behind.{PassedBy}
use Rattle.log_format.proofs.scan.block_behind.Given as goal

abbrev pub invariant-loop-number : goal.invariant-loop-number
invariant-loop-number l = PassedBy l.run l.bytes l.len l.total l.number
