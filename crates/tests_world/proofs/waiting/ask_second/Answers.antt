use Rattle.tests_world.proofs.Keeping.{both_on, sessions_stay, may_fall}
use Rattle.tests_world.proofs.waiting.ask_second.Goals as goal

pub returns-clause-both : goal.returns-clause-both
returns-clause-both g c =
    both_on (g.W.World.state c.args.world.now) (g.W.World.state c.ask_for.new.world)
    (sessions_stay 1 c.in_ok-lock.lock 0 (g.W.World.state c.args.world.now) (g.W.World.state c.ask_for.new.world) c.ask_for.result c.ask_for.ensures.asks)
    c.requires.both

pub returns-clause-rooms : goal.returns-clause-rooms
returns-clause-rooms g c is =
    may_fall c.in_ok-lock.lock (g.W.World.state c.args.world.now) (g.W.World.state c.ask_for.new.world) c.ask_for.result c.ask_for.ensures.asks
    c.in_ok-lock.ensures.asker is
