use Rattle.world_lists.proofs.steps.WorldListsSharedLists.ack.Goals as goal
use Rattle.world_lists.proofs.{Calls.may_ack, Made.acked_kept, Made.acked_shown}

pub ack-requires : goal.ack-requires
ack-requires g c = may_ack c.args.session c.self.invariant c.self.view_is c.requires.joined c.args.moment c.requires.may

pub invariant_of-self : goal.invariant_of-self
invariant_of-self g c =
    acked_kept c.args.session c.self.invariant c.self.view_is c.requires.joined c.args.moment c.ack.ensures c.requires.idle
    (g.met.W.EngineWorld.never_delays c.self.inside.world).told c.requires.may c.is_short.ensures.few

pub returns : goal.returns
returns g c =
    let shows = acked_shown c.args.session c.self.invariant c.self.view_is c.requires.joined c.args.moment c.ack.ensures in
    record { adds = shows.state; settings = shows.settings; rows = shows.rows }
