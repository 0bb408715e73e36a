use Rattle.script_play.specs.Sessions.{Settles, IsOver}
use Rattle.script_play.proofs.playing.pass.Given as goal

abbrev pub invariant-loop-s : goal.invariant-loop-s
invariant-loop-s g l = record {
  settles : Settles l.items l.places (g.E.Sessions.shown l.fn.engine) (g.E.Sessions.shown l.engine);
  set_up : IsOver (g.E.Sessions.shown l.fn.engine).past → IsOver (g.E.Sessions.shown l.engine).past;
}
