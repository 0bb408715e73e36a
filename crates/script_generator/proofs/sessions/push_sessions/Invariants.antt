use Rattle.std.proofs.Common.{◌≡◌, ◌++◌}
use Rattle.script_generator.specs.Generated as spelled
use Rattle.script_generator.proofs.sessions.push_sessions.Given as goal

abbrev pub invariant-loop-s : goal.invariant-loop-s
invariant-loop-s l = record {
  written : l.items ≡ l.fn.items ++ spelled.all_sessions l.transfers l.s l.number;
  drawn : l.words ≡ spelled.after_sessions l.transfers l.s l.number;
}
