use Rattle.row_search.specs.declared.sight.Sight.TheVariants.{Newest}
use Rattle.law_held_steps.proofs.Stepping.{reading_begins, reading_steps, reading_goes_on, reading_nears, reading_waits, reading_ends}
use Rattle.world_lists.proofs.Searching.{waits_by}
use Rattle.world_lists.proofs.reading.newest_rows.Goals as goal
use Rattle.law_held_steps.proofs.{Stepping.new_search, Places.moves_then}

pub reading-init : goal.reading-init
reading-init g c =
    λ chains tells. reading_begins chains c.args.session c.args.table c.args.plan c.args.schema.now tells (new_search c.args.table c.args.plan Newest
    c.new-search.result c.new-search.ensures.search c.new-search.ensures.finds c.new-search.ensures.begins)

pub advance-requires-clause-searching : goal.advance-requires-clause-searching
advance-requires-clause-searching g c =
    (reading_steps _ _ _ _ _ _ (c.reading.invariant c.requires.0 c.requires.1) (g.met.W.EngineWorld.never_delays c.reading.world).told).searching

pub advance-requires-clause-table : goal.advance-requires-clause-table
advance-requires-clause-table g c =
    (reading_steps _ _ _ _ _ _ (c.reading.invariant c.requires.0 c.requires.1) (g.met.W.EngineWorld.never_delays c.reading.world).told).table

pub returns-in-Done-clause-moves : goal.returns-in-Done-clause-moves
returns-in-Done-clause-moves g c = (reading_ends _ _ _ _ _ _ (c.reading.invariant c.requires.0 c.requires.1) c.in-Done.ensures).1

pub returns-in-Done-clause-found : goal.returns-in-Done-clause-found
returns-in-Done-clause-found g c = λ chains tells. (reading_ends _ _ _ _ _ _ (c.reading.invariant chains tells) c.in-Done.ensures).0

pub give_up-requires : goal.give_up-requires
give_up-requires g c =
    reading_steps _ _ _ _ _ _ (reading_waits _ _ _ _ _ _ (c.reading.invariant c.requires.0 c.requires.1) (waits_by c.in-Call.is c.in-Hindered.ensures)
    (g.met.W.EngineWorld.never_delays
    c.advance.new.world).told) (g.met.W.EngineWorld.never_delays c.advance.new.world).told

pub returns-in-NoMemory-clause-moves : goal.returns-in-NoMemory-clause-moves
returns-in-NoMemory-clause-moves g c =
    moves_then (reading_waits _ _ _ _ _ _ (c.reading.invariant c.requires.0 c.requires.1) (waits_by c.in-Call.is c.in-Hindered.ensures)
    (g.met.W.EngineWorld.never_delays
    c.advance.new.world).told).moves c.give_up.ensures

pub reading-preserved : goal.reading-preserved
reading-preserved g c =
    λ chains tells. reading_goes_on _ _ _ _ _ _ (c.reading.invariant chains tells) c.in-Went.ensures (g.met.W.EngineWorld.never_delays c.advance.new.world).told

pub reading-smaller : goal.reading-smaller
reading-smaller g c =
    reading_nears _ _ _ _ _ _ (c.reading.invariant c.requires.0 c.requires.1) c.in-Went.ensures (g.met.W.EngineWorld.never_delays c.advance.new.world).told
