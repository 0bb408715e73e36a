use Rattle.world_lists.proofs.Made.{set_kept, set_shown}
use Rattle.world_lists.proofs.steps.WorldListsSharedLists.set.Goals as goal

pub invariant_of-self : goal.invariant_of-self
invariant_of-self g c =
    set_kept c.args.session c.self.invariant c.self.view_is c.requires.joined c.args.stmt.now c.set.ensures c.requires.idle
    (g.met.W.EngineWorld.never_delays c.self.inside.world).told

pub returns : goal.returns
returns g c =
    let shows = set_shown c.args.session c.self.invariant c.self.view_is c.requires.joined c.args.stmt.now c.set.ensures in
    record { same = shows.state; settings = shows.settings; rows = shows.rows }
