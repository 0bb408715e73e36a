use Rattle.std.proofs.Common.{◌≡◌, ℕ, [], take}
use Rattle.inno_model.specs.Text.{items}
use Rattle.script_play.proofs.playing.join_all.Given as goal

abbrev pub invariant-loop-name : goal.invariant-loop-name
invariant-loop-name g l = record {
  names : (g.E.Sessions.shown l.engine).names ≡ take l.name-index l.names;
  moment : (g.E.Sessions.shown l.engine).moment ≡ 0;
  nothing : (s : ℕ) → items s (g.E.Sessions.shown l.engine).past ≡ [];
}
