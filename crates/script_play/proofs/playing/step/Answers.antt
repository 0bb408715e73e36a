use Rattle.script_play.proofs.SetUp.{starts_none_on}
use Rattle.script_play.proofs.playing.step.Goals as goal

pub returns-then-lacked : goal.returns-then-lacked
returns-then-lacked g c =
    starts_none_on (g.E.Sessions.shown c.args.engine.now) (g.E.Sessions.shown c.step-progress.new.self) (g.E.Sessions.shown c.step-again.new.self)
    c.step-progress.ensures.starts c.step-again.ensures.starts

pub returns-else-lacked : goal.returns-else-lacked
returns-else-lacked g c =
    starts_none_on (g.E.Sessions.shown c.args.engine.now) (g.E.Sessions.shown c.step-progress.new.self) (g.E.Sessions.shown c.step-again.new.self)
    c.step-progress.ensures.starts c.step-again.ensures.starts
