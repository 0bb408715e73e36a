use Rattle.std.proofs.Common.{refl}
use Rattle.world_lists.proofs.Searching.{writer_within, table_within, tells_now, read_answered, nothing_kept, nothing_seen}
use Rattle.world_lists.proofs.steps.WorldListsSharedLists.read_newest.Goals as goal

pub bounds-as_slice-table : goal.bounds-as_slice-table
bounds-as_slice-table g c =
    table_within c.args.session c.self.invariant c.self.view_is c.args.table c.args.plan c.requires.there c.as_slice.ensures c.tables.ensures

pub is_quiet-requires : goal.is_quiet-requires
is_quiet-requires g c = rw c.deref.ensures.value (writer_within c.args.session c.self.invariant c.self.view_is)

pub newest_rows-found-requires : goal.newest_rows-found-requires
newest_rows-found-requires g c =
    tells_now c.args.session c.self.invariant c.self.view_is c.args.table c.args.plan c.requires.there c.as_slice.ensures c.tables.ensures
    c.in_ok-schema.ensures c.index-as_slice-table.is (g.met.W.EngineWorld.never_delays c.self.inside.world).told
    (rw (c.plan_read-plan.ensures, c.is_quiet.ensures, c.deref.ensures.value) refl)

pub invariant_of-self : goal.invariant_of-self
invariant_of-self g c =
    nothing_kept c.args.session c.self.invariant c.self.view_is c.requires.idle c.newest_rows-found.ensures.moves
    (g.met.W.EngineWorld.never_delays c.newest_rows-found.new.world).told

pub returns-in_err-found-clause-same : goal.returns-in_err-found-clause-same
returns-in_err-found-clause-same g c =
    nothing_seen c.args.session c.self.invariant c.self.view_is c.requires.idle c.newest_rows-found.ensures.moves
    (g.met.W.EngineWorld.never_delays c.newest_rows-found.new.world).told

pub invariant_of-self-2 : goal.invariant_of-self-2
invariant_of-self-2 g c =
    nothing_kept c.args.session c.self.invariant c.self.view_is c.requires.idle c.newest_rows-found.ensures.moves
    (g.met.W.EngineWorld.never_delays c.newest_rows-found.new.world).told

pub returns-clause-same : goal.returns-clause-same
returns-clause-same g c =
    nothing_seen c.args.session c.self.invariant c.self.view_is c.requires.idle c.newest_rows-found.ensures.moves
    (g.met.W.EngineWorld.never_delays c.newest_rows-found.new.world).told

pub returns-clause-found : goal.returns-clause-found
returns-clause-found g c =
    read_answered c.args.session c.self.invariant c.self.view_is c.args.table c.args.plan c.requires.there c.as_slice.ensures c.tables.ensures
    c.in_ok-schema.ensures c.index-as_slice-table.is (g.met.W.EngineWorld.never_delays c.self.inside.world).told
    (rw (c.plan_read-plan.ensures, c.is_quiet.ensures, c.deref.ensures.value) refl) c.rows_of.result c.in_ok-found.ensures.found c.rows_of.ensures
