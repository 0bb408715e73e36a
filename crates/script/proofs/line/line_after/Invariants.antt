use Rattle.std.proofs.Common.{◌≡◌, ◌+◌, ◌≤◌, take}
use Rattle.script.specs.Lines as spelled
use Rattle.script.proofs.line.line_after.Given as goal

abbrev pub invariant-loop-b : goal.invariant-loop-b
invariant-loop-b l = record {
  counted : l.line ≡ spelled.line_after (take l.b-index l.before);
  few : l.line ≤ l.b-index + 1;
}
