use Rattle.std.proofs.Common.{refl}
use Rattle.inno_model.specs.declared.event.Event.TheVariants.{Signal}
use Rattle.world_lists.proofs.Made.{on_err, stays_same, enters, signal_kept}
use Rattle.world_lists.proofs.steps.WorldListsSharedLists.signal.Goals as goal

pub returns-in_err-add_signal-clause-err : goal.returns-in_err-add_signal-clause-err
returns-in_err-add_signal-clause-err g c = on_err _ (stays_same c.args._session c.self.invariant c.self.view_is c.in_err-add_signal.ensures.err)

pub invariant_of-self-2 : goal.invariant_of-self-2
invariant_of-self-2 g c =
    signal_kept c.args._session c.self.invariant c.self.view_is c.requires.joined c.args.name c.in_ok-add_signal.ensures.ok c.requires.idle
    (g.met.W.EngineWorld.never_delays c.self.inside.world).told c.is_short.ensures.few

pub returns : goal.returns
returns g c =
    let shows =
    enters c.args._session c.self.invariant c.self.view_is (Signal c.args.name) c.in_ok-add_signal.ensures.ok refl refl refl refl refl refl in
    record { ok = shows.state; err = record {}; settings = shows.settings; rows = shows.rows }
