use Rattle.std.proofs.Common.{◌≡◌, ◌≢◌, ◌<◌, ℕ}
use Rattle.inno_model.specs.Text.{items}
use Rattle.script_play.specs.Sessions.{Settles, IsOver}
use Rattle.script_play.proofs.playing.go_on.Given as goal

abbrev pub invariant-loop-turn : goal.invariant-loop-turn
invariant-loop-turn g l = record {
  settles : Settles l.items l.places (g.E.Sessions.shown l.fn.engine) (g.E.Sessions.shown l.engine);
  others : (t : ℕ) → t ≢ l.s → items t (g.E.Sessions.shown l.engine).past ≡ items t (g.E.Sessions.shown l.fn.engine).past;
  set_up : 0 < l.s → IsOver (g.E.Sessions.shown l.fn.engine).past → IsOver (g.E.Sessions.shown l.engine).past;
}
