use Rattle.script_play.proofs.SetUp.{alone_after}
use Rattle.script_play.proofs.playing.set_up.Goals as goal

pub returns-in_err-go_on-clause-first : goal.returns-in_err-go_on-clause-first
returns-in_err-go_on-clause-first g c =
    alone_after (g.E.Sessions.shown c.args.engine.now).past (g.E.Sessions.shown c.go_on.new.engine).past c.requires.nothing c.in_err-go_on.ensures.others

pub returns-then-is_working-clause-first : goal.returns-then-is_working-clause-first
returns-then-is_working-clause-first g c =
    alone_after (g.E.Sessions.shown c.args.engine.now).past (g.E.Sessions.shown c.go_on.new.engine).past c.requires.nothing c.in_ok-go_on.ensures.others

pub returns-clause-first : goal.returns-clause-first
returns-clause-first g c =
    alone_after (g.E.Sessions.shown c.args.engine.now).past (g.E.Sessions.shown c.go_on.new.engine).past c.requires.nothing c.in_ok-go_on.ensures.others

pub returns-clause-over : goal.returns-clause-over
returns-clause-over g c = record {
  rests = c.is_working.ensures.rests c.if-is_working.false;
  first = alone_after (g.E.Sessions.shown c.args.engine.now).past (g.E.Sessions.shown c.go_on.new.engine).past c.requires.nothing c.in_ok-go_on.ensures.others;
}
