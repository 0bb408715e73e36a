use Rattle.std.proofs.Common.{None}
use Rattle.inno_model.specs.Boards.{phase_of}
use Rattle.turn_engine.proofs.Steps.{none_made, steps_on}
use Rattle.turn_engine.proofs.turn.timed_steps.Goals as goal

pub loop-init : goal.loop-init
loop-init g c = none_made _ _

pub returns : goal.returns
returns g c = steps_on _ _ _ _ _ _ c.loop.invariant c.timed_step-2.ensures

pub returns-in_default : goal.returns-in_default
returns-in_default g c = steps_on _ _ _ _ _ _ c.loop.invariant c.timed_step.ensures

pub returns-in_default-2 : goal.returns-in_default-2
returns-in_default-2 g c = steps_on _ _ _ _ _ _ c.loop.invariant c.timed_step.ensures

pub loop-preserved : goal.loop-preserved
loop-preserved g c =
    steps_on c.args.s (g.E.Recorded.board c.args.engine.now) (g.E.Recorded.board c.loop.engine) (g.E.Recorded.board c.timed_step.new.engine)
    (phase_of (g.E.Recorded.board c.args.engine.now) c.args.s) None c.loop.invariant c.in-Went.ensures
