use Rattle.std.proofs.Common.{sym, subst, ◌∙◌}
use Rattle.txn_table.specs.Txns.{is_there}
use Rattle.world_lists.proofs.steps.WorldListsSharedLists.save.Goals as goal
use Rattle.world_lists.proofs.{Calls.its_work, Calls.its_listed, Calls.its_txn, Made.when_ok, Made.saved_kept, Made.saved_stays, Made.saved_reset}

pub savepoint-requires : goal.savepoint-requires
savepoint-requires g c =
    let has = (its_work c.args.session c.self.invariant c.self.view_is c.requires.joined c.requires.is_open).2 in
    let number = c.txn_of-txn.ensures ∙ its_txn c.args.session c.self.invariant c.self.view_is has in
    subst (λ n. is_there n (g.W.World.state c.self.inside.world).txns.open_txns) (sym number)
    (its_listed c.args.session c.self.invariant c.self.view_is has).there

pub invariant_of-self : goal.invariant_of-self
invariant_of-self g c =
    saved_kept c.args.session c.self.invariant c.self.view_is c.requires.joined c.requires.is_open c.args.name.now c.txn_of-txn.ensures c.session-made.ensures
    _ c.savepoint.result c.savepoint.ensures.ok c.savepoint.ensures.err c.requires.idle (g.met.W.EngineWorld.never_delays c.self.inside.world).told

pub returns-clause-same : goal.returns-clause-same
returns-clause-same g c =
    saved_stays c.args.session c.self.invariant c.self.view_is c.requires.joined c.requires.is_open c.args.name.now c.txn_of-txn.ensures
    c.session-made.ensures _ c.savepoint.result c.savepoint.ensures.ok c.savepoint.ensures.err

pub returns-clause-ok : goal.returns-clause-ok
returns-clause-ok g c =
    when_ok c.savepoint.result c.savepoint.ensures.ok (saved_reset c.args.session c.self.invariant c.self.view_is c.requires.joined c.requires.is_open
    c.args.name.now c.txn_of-txn.ensures c.session-made.ensures _)
