use Rattle.std.proofs.Common.{◌≡◌, ◌<◌, ◌≤◌, length, take}
use Rattle.script_play.specs.Sessions.{Plays, IsOver, seconds_in}
use Rattle.script_play.proofs.playing.play_items.Given as goal

abbrev pub invariant-loop-tick : goal.invariant-loop-tick
invariant-loop-tick g l = record {
  within : l.known ≤ length l.items;
  plays : Plays (take l.known l.items) l.places (g.E.Sessions.shown l.fn.engine) (g.E.Sessions.shown l.engine);
  over : IsOver (g.E.Sessions.shown l.engine).past;
  first : 0 < length l.places;
  moment : (g.E.Sessions.shown l.engine).moment ≡ seconds_in (take l.tick-index l.ticks);
}
