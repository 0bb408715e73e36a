use Rattle.world_lists.proofs.Changing.{may_change, desk_kept, desk_shown}
use Rattle.world_lists.proofs.steps.WorldListsSharedLists.change.Goals as goal

pub change_at_desk-changed-requires-clause-changing : goal.change_at_desk-changed-requires-clause-changing
change_at_desk-changed-requires-clause-changing g c = may_change c.args.session c.self.invariant c.self.view_is c.requires.locked
    c.requires.changing c.requires.removes

pub invariant_of-self : goal.invariant_of-self
invariant_of-self g c =
    desk_kept c.args.session c.self.invariant c.self.view_is c.requires.locked c.requires.changing (g.met.W.EngineWorld.never_delays c.self.inside.world).told
    (g.met.W.EngineWorld.never_delays c.change_at_desk-changed.new.world).told c.is_short.ensures.few c.change_at_desk-changed.ensures

pub returns : goal.returns
returns g c =
    let changes = desk_shown c.args.session c.self.invariant c.self.view_is c.requires.locked c.requires.changing
    (g.met.W.EngineWorld.never_delays c.self.inside.world).told
    (g.met.W.EngineWorld.never_delays c.change_at_desk-changed.new.world).told c.is_short.ensures.few c.change_at_desk-changed.ensures in
    record { changes = changes.changes; settings = changes.settings; rows = changes.rows }
