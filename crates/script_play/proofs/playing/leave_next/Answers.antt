use Rattle.std.proofs.Common.{◌∙◌, ap, arith}
use Rattle.script_play.specs.Sessions.{Shown}
use Rattle.script_play.proofs.SetUp.{over_still}
use Rattle.script_play.proofs.playing.leave_next.Goals as goal

pub returns-in_err-settle-clause-set_up : goal.returns-in_err-settle-clause-set_up
returns-in_err-settle-clause-set_up g c = λ over.
    c.in_err-settle.ensures.set_up (over_still (g.E.Sessions.shown c.args.engine.now) (g.E.Sessions.shown c.leave.new.self) c.leave.ensures.starts over)

pub returns-in-Some-clause-set_up : goal.returns-in-Some-clause-set_up
returns-in-Some-clause-set_up g c = λ over.
    c.in_ok-settle.ensures.set_up (over_still (g.E.Sessions.shown c.args.engine.now) (g.E.Sessions.shown c.leave.new.self) c.leave.ensures.starts over)

pub returns-then-branch-clause-moment : goal.returns-then-branch-clause-moment
returns-then-branch-clause-moment g c =
    (1, c.in_ok-settle-2.ensures.settles.moment ∙ (ap (λ (x : Shown). x.moment) c.in_ok-pass_time.ensures.ok ∙ omega arith))
