use Rattle.script_play.specs.Sessions.{Plays, PassesWaits, IsOver}
use Rattle.script_play.proofs.playing.leave_all.Given as goal

abbrev pub invariant-loop : goal.invariant-loop
invariant-loop g l = record {
  plays : Plays l.items l.places (g.E.Sessions.shown l.fn.engine) (g.E.Sessions.shown l.engine);
  set_up : IsOver (g.E.Sessions.shown l.fn.engine).past → IsOver (g.E.Sessions.shown l.engine).past;
  moment : PassesWaits (g.E.Sessions.shown l.fn.engine).moment (g.E.Sessions.shown l.engine).moment;
}
