use Rattle.std.proofs.Common.{refl}
use Rattle.world_lists.proofs.Calls.{still_there}
use Rattle.desks.specs.declared.desk.Doing.TheVariants.{Nothing}
use Rattle.world_lists.proofs.Searching.{may_step_now, went_kept, went_seen, went_nears, ended_kept, ended_seen, hindered_kept, hindered_seen, waits_by}
use Rattle.world_lists.proofs.Searching.{waits_for_memory}
use Rattle.world_lists.proofs.steps.WorldListsSharedLists.search.Goals as goal

pub advance-requires-clause-searching : goal.advance-requires-clause-searching
advance-requires-clause-searching g c =
    (may_step_now c.args.session c.self.invariant c.self.view_is c.in-Searching.ensures.was c.take_up.ensures.as_it_was
    c.take_up.ensures.anew (g.met.W.EngineWorld.never_delays c.self.inside.world).told).searching

pub advance-requires-clause-table : goal.advance-requires-clause-table
advance-requires-clause-table g c =
    (may_step_now c.args.session c.self.invariant c.self.view_is c.in-Searching.ensures.was c.take_up.ensures.as_it_was
    c.take_up.ensures.anew (g.met.W.EngineWorld.never_delays c.self.inside.world).told).table

pub give_doing-requires : goal.give_doing-requires
give_doing-requires g c = still_there c.args.session c.self.invariant c.self.view_is Nothing c.take_doing.ensures.is c.requires.joined

pub invariant_of-self : goal.invariant_of-self
invariant_of-self g c =
    went_kept c.args.session c.self.invariant c.self.view_is c.in-Searching.ensures.was c.take_up.ensures.as_it_was c.take_up.ensures.anew
    (g.met.W.EngineWorld.never_delays c.advance.new.world).told c.in-Went.ensures c.take_doing.ensures.is c.give_doing.ensures

pub returns-in-Went-clause-searches : goal.returns-in-Went-clause-searches
returns-in-Went-clause-searches g c =
    λ table plan reading task. went_seen c.args.session c.self.invariant c.self.view_is c.in-Searching.ensures.was c.take_up.ensures.as_it_was
    c.take_up.ensures.anew (g.met.W.EngineWorld.never_delays c.advance.new.world).told c.in-Went.ensures c.take_doing.ensures.is c.give_doing.ensures

pub returns-in-Went-clause-nears : goal.returns-in-Went-clause-nears
returns-in-Went-clause-nears g c =
    λ went. went_nears c.args.session c.self.invariant c.self.view_is c.in-Searching.ensures.was c.take_up.ensures.as_it_was c.take_up.ensures.anew
    (g.met.W.EngineWorld.never_delays c.advance.new.world).told c.in-Went.ensures c.take_doing.ensures.is c.give_doing.ensures

pub invariant_of-self-in-Done : goal.invariant_of-self-in-Done
invariant_of-self-in-Done g c =
    ended_kept c.args.session c.self.invariant c.self.view_is c.in-Searching.ensures.was c.take_up.ensures.as_it_was c.take_up.ensures.anew
    (g.met.W.EngineWorld.never_delays c.advance.new.world).told c.take_doing.ensures.is c.in-Done.ensures

pub returns-in-Done-clause-searches : goal.returns-in-Done-clause-searches
returns-in-Done-clause-searches g c =
    ended_seen c.args.session c.self.invariant c.self.view_is c.in-Searching.ensures.was c.take_up.ensures.as_it_was c.take_up.ensures.anew
    (g.met.W.EngineWorld.never_delays c.advance.new.world).told c.take_doing.ensures.is c.in-Done.ensures c.found_rows.ensures.rows c.found_rows.ensures.over
    c.found_rows.ensures.hindered

pub invariant_of-self-in-NoMemory : goal.invariant_of-self-in-NoMemory
invariant_of-self-in-NoMemory g c =
    hindered_kept c.args.session c.self.invariant c.self.view_is c.in-Searching.ensures.was c.take_up.ensures.as_it_was c.take_up.ensures.anew
    (g.met.W.EngineWorld.never_delays c.advance.new.world).told c.take_doing.ensures.is (waits_by c.in-Call.is c.in-Hindered.ensures) c.give_up.ensures
    (g.met.W.EngineWorld.never_delays c.give_up.new.world).told

pub returns-in-NoMemory-clause-searches : goal.returns-in-NoMemory-clause-searches
returns-in-NoMemory-clause-searches g c =
    λ table plan reading task. (
      refl,
      hindered_seen c.args.session c.self.invariant c.self.view_is c.in-Searching.ensures.was c.take_up.ensures.as_it_was
          c.take_up.ensures.anew (g.met.W.EngineWorld.never_delays c.advance.new.world).told c.take_doing.ensures.is
          (waits_by c.in-Call.is c.in-Hindered.ensures)
          c.give_up.ensures
          (g.met.W.EngineWorld.never_delays c.give_up.new.world).told,
    )

pub unreachable-requires-in_default-why : goal.unreachable-requires-in_default-why
unreachable-requires-in_default-why g c =
    c.in_default-why.not-NoMemory (waits_for_memory (g.met.W.EngineWorld.never_delays c.self.inside.world)
    (g.met.W.EngineWorld.never_delays c.advance.new.world) (waits_by c.in-Call.is c.in-Hindered.ensures))
