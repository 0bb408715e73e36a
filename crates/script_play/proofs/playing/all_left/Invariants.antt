use Rattle.std.proofs.Common.{◌≡◌, ◌<◌, ◌≤◌, ℕ, true, None}
use Rattle.inno_model.specs.Past.{under_way}
use Rattle.script_play.proofs.playing.all_left.Given as goal

abbrev pub invariant-loop-s : goal.invariant-loop-s
invariant-loop-s g l = record {
  left : (s : ℕ) → l.first ≤ s → s < l.s → (g.E.Sessions.shown l.engine).has_left s ≡ true;
  over : (s : ℕ) → l.first ≤ s → s < l.s → under_way s (g.E.Sessions.shown l.engine).past ≡ None;
}
