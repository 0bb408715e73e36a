use Rattle.std.proofs.Common.{◌≡◌}
use Rattle.script_generator.specs.Generated as spelled
use Rattle.script_generator.proofs.sessions.names_to.Given as goal

abbrev pub invariant-loop-s : goal.invariant-loop-s
invariant-loop-s l = l.names ≡ spelled.names_to l.s
