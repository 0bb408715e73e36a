use Rattle.std.proofs.Common.{take}
use Rattle.script_play.specs.Sessions.{Settles, IsOver}
use Rattle.script_play.proofs.playing.play_until.Given as goal

abbrev pub invariant-loop-next : goal.invariant-loop-next
invariant-loop-next g l = record {
  settles : Settles (take l.next l.items) l.places (g.E.Sessions.shown l.fn.engine) (g.E.Sessions.shown l.engine);
  set_up : IsOver (g.E.Sessions.shown l.fn.engine).past → IsOver (g.E.Sessions.shown l.engine).past;
}
