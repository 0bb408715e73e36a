use Rattle.std.proofs.Common.{[]}
use Rattle.inno_model.specs.Boards.{phase_of}
use Rattle.turn_engine.specs.Calls.{Makes}
use Rattle.turn_engine.proofs.turn.timed_steps.Given as goal

-- so far nothing has ended
abbrev pub invariant-loop : goal.invariant-loop
invariant-loop g l =
    Makes l.s (g.E.Recorded.board l.initial.engine) (g.E.Recorded.board l.engine) [] (phase_of (g.E.Recorded.board l.initial.engine) l.s)
