use Rattle.tests_world.proofs.Keeping.{both_on, sessions_stay}
use Rattle.tests_world.proofs.waiting.ask_first.Goals as goal

pub returns : goal.returns
returns g c = record {
  both = both_on (g.W.World.state c.args.world.now) (g.W.World.state c.ask_for.new.world)
      (sessions_stay 0 c.in_ok-lock.lock 0 (g.W.World.state c.args.world.now) (g.W.World.state c.ask_for.new.world) c.ask_for.result c.ask_for.ensures.asks)
      c.requires.both;
}
