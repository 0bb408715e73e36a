use Rattle.world_lists.proofs.{Calls.its_work, Made.on_err, Made.stays_same, Made.viewed_kept, Made.viewed_shown}
use Rattle.world_lists.proofs.steps.WorldListsSharedLists.take_view.Goals as goal

pub add_view-added-requires : goal.add_view-added-requires
add_view-added-requires g c = its_work c.args.session c.self.invariant c.self.view_is c.requires.joined c.requires.is_open

pub returns-in_err-added-clause-err : goal.returns-in_err-added-clause-err
returns-in_err-added-clause-err g c = on_err _ (stays_same c.args.session c.self.invariant c.self.view_is c.in_err-added.ensures.err)

pub invariant_of-self-2 : goal.invariant_of-self-2
invariant_of-self-2 g c =
    viewed_kept c.args.session c.self.invariant c.self.view_is c.requires.joined c.requires.is_open c.in_ok-active.ensures c.next_id-next.ensures
    c.in_ok-added.ensures.ok c.requires.idle (g.met.W.EngineWorld.never_delays c.self.inside.world).told c.is_short.ensures.few

pub returns : goal.returns
returns g c =
    let shows =
    viewed_shown c.args.session c.self.invariant c.self.view_is c.requires.joined c.requires.is_open c.in_ok-active.ensures c.next_id-next.ensures
    c.in_ok-added.ensures.ok in
    record { ok = shows.state; err = record {}; settings = shows.settings; rows = shows.rows }
