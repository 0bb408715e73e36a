use Rattle.std.proofs.Common.{◌+◌, ap}
use Rattle.world_lists.proofs.{Calls.desk_started, Calls.desks_started, Made.on_err, Made.stays_same, Made.started_kept, Made.started_shown}
use Rattle.world_lists.proofs.steps.WorldListsSharedLists.start.Goals as goal

pub returns-in_err-start-clause-err : goal.returns-in_err-start-clause-err
returns-in_err-start-clause-err g c = on_err c.from_residual.result (stays_same c.args.session c.self.invariant c.self.view_is c.in_err-start.ensures.err)

pub invariant_of-self-2 : goal.invariant_of-self-2
invariant_of-self-2 g c =
    started_kept c.args.session c.self.invariant c.self.view_is c.requires.joined _
    (ap (λ n. n + 1) (desk_started c.args.session c.self.invariant c.self.view_is c.requires.joined c.index.ensures)) c.args.item c.in_ok-start.ensures.ok
    (desks_started c.args.session c.self.invariant c.self.view_is c.requires.joined c.index_mut.ensures.value (desk_started c.args.session c.self.invariant
    c.self.view_is c.requires.joined c.index.ensures))
    c.requires.at_rest (g.met.W.EngineWorld.never_delays c.self.inside.world).told c.requires.idle c.is_short.ensures.few

pub returns : goal.returns
returns g c =
    let shows =
    started_shown c.args.session c.self.invariant c.self.view_is c.requires.joined _
    (ap (λ n. n + 1) (desk_started c.args.session c.self.invariant c.self.view_is c.requires.joined c.index.ensures)) c.args.item c.in_ok-start.ensures.ok
    (desks_started c.args.session c.self.invariant c.self.view_is c.requires.joined c.index_mut.ensures.value (desk_started c.args.session c.self.invariant
    c.self.view_is c.requires.joined c.index.ensures)) in
    record { ok = shows.state; err = record {}; settings = shows.settings; rows = shows.rows }
