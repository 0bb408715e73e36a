use Rattle.std.proofs.Common.{◌≡◌, ◌++◌}
use Rattle.script_generator.specs.Generated as spelled
use Rattle.script_generator.proofs.sessions.push_session.Given as goal

abbrev pub invariant-loop-turn : goal.invariant-loop-turn
invariant-loop-turn l = record {
  written : l.items ≡ l.fn.items ++ spelled.session_items l.s l._turn l.fn.words;
  drawn : l.words ≡ spelled.after_transfers l._turn l.fn.words;
}
