use Rattle.world_lists.proofs.steps.WorldListsSharedLists.commit.Goals as goal
use Rattle.world_lists.proofs.{Calls.may_end, Made.committed_kept, Made.committed_shown}

pub commit-requires : goal.commit-requires
commit-requires g c = may_end c.args.session c.self.invariant c.self.view_is c.requires.joined c.requires.may

pub invariant_of-self : goal.invariant_of-self
invariant_of-self g c =
    committed_kept c.args.session c.self.invariant c.self.view_is c.without-self-inside.ensures c.requires.idle
    (g.met.W.EngineWorld.never_delays c.self.inside.world).told c.is_short.ensures.few c.in-Done.ensures

pub returns : goal.returns
returns g c =
    let shows = committed_shown c.args.session c.self.invariant c.self.view_is c.without-self-inside.ensures c.in-Done.ensures in
    record { closes = shows.state; settings = shows.settings; rows = shows.rows }
