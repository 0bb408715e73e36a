use Rattle.script_play.proofs.SetUp.{starts_none_on}
use Rattle.script_play.proofs.playing.step_on.Goals as goal

pub loop-turn-preserved : goal.loop-turn-preserved
loop-turn-preserved g c =
    starts_none_on (g.E.Sessions.shown c.args.engine.now) (g.E.Sessions.shown c.loop-turn.engine) (g.E.Sessions.shown c.step_at_work.new.engine)
    c.loop-turn.invariant c.in_ok-step_at_work.ensures

pub returns-in_err-step_at_work : goal.returns-in_err-step_at_work
returns-in_err-step_at_work g c =
    starts_none_on (g.E.Sessions.shown c.args.engine.now) (g.E.Sessions.shown c.loop-turn.engine) (g.E.Sessions.shown c.step_at_work.new.engine)
    c.loop-turn.invariant c.in_err-step_at_work.ensures

pub returns-then-not-branch : goal.returns-then-not-branch
returns-then-not-branch g c =
    starts_none_on (g.E.Sessions.shown c.args.engine.now) (g.E.Sessions.shown c.loop-turn.engine) (g.E.Sessions.shown c.step_at_work.new.engine)
    c.loop-turn.invariant c.in_ok-step_at_work.ensures
