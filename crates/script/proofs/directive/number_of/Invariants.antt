use Rattle.std.proofs.Common.{◌≡◌, ◌≤◌, take}
use Rattle.script.specs.Directives as spelled
use Rattle.script.proofs.Bounds.{largest}
use Rattle.script.proofs.directive.number_of.Given as goal

abbrev pub invariant-loop-digit : goal.invariant-loop-digit
invariant-loop-digit l = record {
  told : l.number ≡ spelled.number_of (take l.digit-index l.digits);
  small : l.number ≤ largest l.digit-index;
}
