use Rattle.world_lists.proofs.steps.WorldListsSharedLists.roll_back.Goals as goal
use Rattle.world_lists.proofs.{Calls.may_end, Made.rolled_back_kept, Made.rolled_back_shown}

pub roll_back-requires : goal.roll_back-requires
roll_back-requires g c = may_end c.args.session c.self.invariant c.self.view_is c.requires.joined c.requires.may.0

pub invariant_of-self : goal.invariant_of-self
invariant_of-self g c =
    rolled_back_kept c.args.session c.self.invariant c.self.view_is c.without-self-inside.ensures c.requires.idle
    (g.met.W.EngineWorld.never_delays c.self.inside.world).told c.is_short.ensures.few c.requires.may.1 c.in-Done.ensures

pub returns : goal.returns
returns g c =
    let shows = rolled_back_shown c.args.session c.self.invariant c.self.view_is c.without-self-inside.ensures c.in-Done.ensures in
    record { closes = shows.state; settings = shows.settings; rows = shows.rows }
