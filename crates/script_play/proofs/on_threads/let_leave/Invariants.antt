use Rattle.std.proofs.Common.{◌≡◌, ◌⊎◌, ℕ}
use Rattle.inno_model.specs.Recorded.{Extends}
use Rattle.inno_model.specs.declared.board.Phase.TheVariants.{Leaving, Left}
use Rattle.inno_model.specs.Boards.{calls_of, phase_of}
use Rattle.script_play.proofs.on_threads.let_leave.Given as goal

abbrev pub invariant-loop : goal.invariant-loop
invariant-loop g l = record {
  names : (g.E.Recorded.board l.engine).names ≡ (g.E.Recorded.board l.fn.engine).names;
  calls : (x : ℕ) → calls_of x (g.E.Recorded.board l.engine).past ≡ calls_of x (g.E.Recorded.board l.fn.engine).past;
  extends : Extends (g.E.Recorded.board l.fn.engine).past (g.E.Recorded.board l.engine).past;
  phase : (phase_of (g.E.Recorded.board l.engine) 0 ≡ Leaving) ⊎ (phase_of (g.E.Recorded.board l.engine) 0 ≡ Left);
}
