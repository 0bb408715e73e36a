use Rattle.world_lists.proofs.steps.WorldListsSharedLists.end.Goals as goal
use Rattle.world_lists.proofs.{Calls.may_reply, Calls.desk_started, Made.ended_kept, Made.ended_shown}

pub end_item-requires-clause-may : goal.end_item-requires-clause-may
end_item-requires-clause-may g c = may_reply c.args.session c.self.invariant c.self.view_is c.requires.joined c.requires.may.0 c.requires.may.1

pub invariant_of-self : goal.invariant_of-self
invariant_of-self g c =
    ended_kept c.args.session c.self.invariant c.self.view_is c.requires.joined _ (desk_started c.args.session c.self.invariant c.self.view_is c.requires.joined
    c.index.ensures) c.args.reply c.end_item.ensures c.requires.idle (g.met.W.EngineWorld.never_delays c.self.inside.world).told c.requires.may
    c.is_short.ensures.few

pub returns : goal.returns
returns g c =
    let shows =
    ended_shown c.args.session c.self.invariant c.self.view_is c.requires.joined _
    (desk_started c.args.session c.self.invariant c.self.view_is c.requires.joined c.index.ensures) c.args.reply c.end_item.ensures in
    record { adds = shows.state; settings = shows.settings; rows = shows.rows }
