use Rattle.std.proofs.Common.{◌≡◌, ◌≤◌, length}
use Rattle.script.specs.Lines as spelled
use Rattle.script.proofs.line.after_end.Given as goal

abbrev pub invariant-loop-rest : goal.invariant-loop-rest
invariant-loop-rest l = record {
  same : spelled.after_end l.rest ≡ spelled.after_end l.bytes;
  shorter : length l.rest ≤ length l.bytes;
}

abbrev pub decreases-loop-rest : goal.decreases-loop-rest
decreases-loop-rest l = length l.rest
