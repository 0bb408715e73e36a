use Rattle.std.proofs.Common.{◌∙◌}
use Rattle.script_play.proofs.Places.{waits_on}
use Rattle.script_play.proofs.playing.leave_all.Goals as goal

pub returns-then-not-branch-clause-moment : goal.returns-then-not-branch-clause-moment
returns-then-not-branch-clause-moment g c =
    waits_on (g.E.Sessions.shown c.args.engine.now).moment (g.E.Sessions.shown c.loop.engine).moment (g.E.Sessions.shown c.leave_next.new.engine).moment
    c.loop.invariant.moment c.in_ok-leave_next.ensures.moment

pub loop-preserved : goal.loop-preserved
loop-preserved g c =
    let plays = c.in_ok-leave_next.ensures.plays in
    record {
      plays = record { names = plays.names ∙ c.loop.invariant.plays.names; count = plays.count; started = plays.started };
      set_up = λ over. c.in_ok-leave_next.ensures.set_up (c.loop.invariant.set_up over);
      moment = waits_on (g.E.Sessions.shown c.args.engine.now).moment (g.E.Sessions.shown c.loop.engine).moment
          (g.E.Sessions.shown c.leave_next.new.engine).moment c.loop.invariant.moment c.in_ok-leave_next.ensures.moment;
    }
