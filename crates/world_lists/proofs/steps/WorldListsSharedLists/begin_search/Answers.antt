use Rattle.law_held_steps.proofs.Stepping.{new_search}
use Rattle.world_lists.proofs.Searching.{table_within, view_there, begun_kept, begun_seen}
use Rattle.world_lists.proofs.steps.WorldListsSharedLists.begin_search.Goals as goal

pub bounds-as_slice-table : goal.bounds-as_slice-table
bounds-as_slice-table g c =
    table_within c.args.session c.self.invariant c.self.view_is c.args.table c.args.plan c.requires.there c.as_slice.ensures c.tables.ensures

pub sight_by-requires : goal.sight_by-requires
sight_by-requires g c = λ as_view. view_there c.args.session c.self.invariant c.self.view_is c.requires.is_open (c.requires.view as_view)

pub invariant_of-self : goal.invariant_of-self
invariant_of-self g c =
    begun_kept c.args.session c.self.invariant c.self.view_is c.args.table c.args.plan c.requires.there c.as_slice.ensures c.tables.ensures
    c.in_ok-schema.ensures c.index-as_slice-table.is c.args.reading c.in_ok-sight.ensures.view c.in_ok-sight.ensures.newest
    c.requires.newest (new_search c.args.table c.args.plan c.in_ok-sight.sight c.new.result c.new.ensures.search c.new.ensures.finds c.new.ensures.begins)
    c.give_doing.ensures c.requires.idle (g.met.W.EngineWorld.never_delays c.self.inside.world).told

pub returns-clause-ok : goal.returns-clause-ok
returns-clause-ok g c =
    begun_seen c.args.session c.self.invariant c.self.view_is c.args.table c.args.plan c.requires.there c.as_slice.ensures c.tables.ensures
    c.in_ok-schema.ensures c.index-as_slice-table.is c.args.reading c.in_ok-sight.ensures.view c.in_ok-sight.ensures.newest
    c.requires.newest (new_search c.args.table c.args.plan c.in_ok-sight.sight c.new.result c.new.ensures.search c.new.ensures.finds c.new.ensures.begins)
    c.give_doing.ensures c.requires.joined
