use Rattle.script_play.specs.Sessions.{Settles, IsOver}
use Rattle.script_play.proofs.playing.settle.Given as goal

abbrev pub invariant-loop-turn : goal.invariant-loop-turn
invariant-loop-turn g l = record {
  settles : Settles l.items l.places (g.E.Sessions.shown l.fn.engine) (g.E.Sessions.shown l.engine);
  set_up : IsOver (g.E.Sessions.shown l.fn.engine).past → IsOver (g.E.Sessions.shown l.engine).past;
}
