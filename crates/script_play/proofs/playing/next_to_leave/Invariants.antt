use Rattle.std.proofs.Common.{◌<◌, ℕ}
use Rattle.script_play.specs.Sessions.{IsIdle}
use Rattle.script_play.proofs.playing.next_to_leave.Given as goal

abbrev pub invariant-loop-s : goal.invariant-loop-s
invariant-loop-s g l = (t : ℕ) → 0 < t → t < l.s → IsIdle t (g.E.Sessions.shown l.engine) → ⊥
