use Rattle.std.proofs.Common.{refl, sym, ◌∙◌}
use Rattle.world_lists.proofs.steps.WorldListsSharedLists.stop_change.Goals as goal
use Rattle.desks.specs.declared.desk.Doing.TheVariants.{Nothing}
use Rattle.world_lists.proofs.{Changing.its_change, Changing.its_untold, Changing.step_kept, Changing.step_shown, Changing.step_stops}
use Rattle.world_lists.proofs.{Changing.none_entered, Calls.still_there, Searching.desks_given}

pub drop_change-doing-requires-clause-changing : goal.drop_change-doing-requires-clause-changing
drop_change-doing-requires-clause-changing g c =
    its_change c.args.session c.self.invariant c.self.view_is c.requires.locked (sym c.take_doing-doing.ensures.was ∙ c.in-Changing.is)

pub drop_change-doing-requires-clause-untold : goal.drop_change-doing-requires-clause-untold
drop_change-doing-requires-clause-untold g c =
    its_untold c.args.session c.self.invariant c.self.view_is c.requires.locked (sym c.take_doing-doing.ensures.was ∙ c.in-Changing.is) c.requires.asked.1

pub give_doing-requires : goal.give_doing-requires
give_doing-requires g c = still_there c.args.session c.self.invariant c.self.view_is Nothing c.take_doing-doing.ensures.is c.requires.joined

pub invariant_of-self : goal.invariant_of-self
invariant_of-self g c =
    step_kept c.args.session c.self.invariant c.self.view_is c.requires.locked (g.met.W.EngineWorld.never_delays c.self.inside.world).told
    (g.met.W.EngineWorld.never_delays c.self.inside.world).told c.is_short.ensures.few (sym c.take_doing-doing.ensures.was ∙ c.in-Changing.is) c.drop_change-doing.ensures
    (desks_given c.args.session c.drop_change-doing.result _ _ _ c.take_doing-doing.ensures.is c.give_doing.ensures)

pub returns : goal.returns
returns g c =
    let changes = step_shown c.args.session c.self.invariant c.self.view_is c.requires.locked (g.met.W.EngineWorld.never_delays c.self.inside.world).told
    (g.met.W.EngineWorld.never_delays c.self.inside.world).told c.is_short.ensures.few (sym c.take_doing-doing.ensures.was ∙ c.in-Changing.is)
    c.drop_change-doing.ensures (desks_given c.args.session c.drop_change-doing.result _ _ _ c.take_doing-doing.ensures.is c.give_doing.ensures) in
    record {
      stops = step_stops c.args.session c.self.invariant c.self.view_is c.requires.locked (g.met.W.EngineWorld.never_delays c.self.inside.world).told
          (g.met.W.EngineWorld.never_delays c.self.inside.world).told c.is_short.ensures.few (sym c.take_doing-doing.ensures.was ∙ c.in-Changing.is)
          c.drop_change-doing.ensures (desks_given c.args.session c.drop_change-doing.result _ _ _ c.take_doing-doing.ensures.is c.give_doing.ensures)
          c.requires.asked.0 c.requires.asked.1 refl;
      settings = changes.settings;
      rows = none_entered _ _ changes.rows;
    }
