use Rattle.std.proofs.Common.{◌≡◌, length}
use Rattle.script_play.specs.Sessions.{Shown, Plays}
use Rattle.script_play.proofs.playing.skip_all.Given as goal

abbrev pub invariant-loop-s : goal.invariant-loop-s
invariant-loop-s l = record {
  plays : (old now : Shown) → Plays l.items l.fn.places old now → Plays l.items l.places old now;
  count : length l.places ≡ length l.fn.places;
}
