use Rattle.world_lists.proofs.TakingBack.{asks, is_made, step_kept, step_shown, is_logged, is_session, has_changes, has_still, done_kept, done_shown}
use Rattle.world_lists.proofs.undoing.take_newest_back.Goals as goal

pub put_back-requires-clause-under_way : goal.put_back-requires-clause-under_way
put_back-requires-clause-under_way g c =
    (asks c.args.session c.requires.kept.1 c.requires.joined c.requires.busy (g.met.W.EngineWorld.never_delays c.args.world.now)
    c.index_mut-desk.ensures.value).0

pub put_back-requires-clause-together : goal.put_back-requires-clause-together
put_back-requires-clause-together g c =
    (asks c.args.session c.requires.kept.1 c.requires.joined c.requires.busy (g.met.W.EngineWorld.never_delays c.args.world.now)
    c.index_mut-desk.ensures.value).1

pub drop_newest-requires-clause-joined : goal.drop_newest-requires-clause-joined
drop_newest-requires-clause-joined g c =
    is_session c.args.session c.requires.kept.1 c.requires.joined c.requires.busy (g.met.W.EngineWorld.never_delays c.args.world.now)
    c.index_mut-desk.ensures.value
    (g.W.World.state c.put_back.new.world) c.put_back.new.room c.in-Done.ensures.puts

pub drop_newest-requires-clause-logged : goal.drop_newest-requires-clause-logged
drop_newest-requires-clause-logged g c =
    is_logged c.args.session c.requires.kept.1 c.requires.joined c.requires.busy (g.met.W.EngineWorld.never_delays c.args.world.now)
    c.index_mut-desk.ensures.value
    (g.W.World.state c.put_back.new.world) c.put_back.new.room c.in-Done.ensures.puts

pub drop_newest-requires-clause-counts : goal.drop_newest-requires-clause-counts
drop_newest-requires-clause-counts g c =
    has_changes c.args.session c.requires.kept.1 c.requires.joined c.requires.busy (g.met.W.EngineWorld.never_delays c.args.world.now)
    c.index_mut-desk.ensures.value
    (g.W.World.state c.put_back.new.world) c.put_back.new.room c.in-Done.ensures.puts

pub drop_newest-requires-clause-still : goal.drop_newest-requires-clause-still
drop_newest-requires-clause-still g c =
    has_still c.args.session c.requires.kept.1 c.requires.joined c.requires.busy (g.met.W.EngineWorld.never_delays c.args.world.now)
    c.index_mut-desk.ensures.value
    (g.W.World.state c.put_back.new.world) c.put_back.new.room c.in-Done.ensures.puts

pub unreachable-requires : goal.unreachable-requires
unreachable-requires g c =
    is_made c.args.session c.requires.kept.1 c.requires.joined c.requires.busy (g.met.W.EngineWorld.never_delays c.args.world.now)
    c.index_mut-desk.ensures.value
    (g.W.World.state c.put_back.new.world) c.put_back.new.room (g.met.W.EngineWorld.never_delays c.put_back.new.world) c.put_back.result
    c.put_back.ensures.puts c.in_default.not-Done c.in_default.not-Step

pub returns-in-Done-clause-kept : goal.returns-in-Done-clause-kept
returns-in-Done-clause-kept g c =
    λ writer kept. done_kept c.args.session kept c.requires.joined c.requires.busy (g.met.W.EngineWorld.never_delays c.args.world.now)
    c.index_mut-desk.ensures.value
    (g.W.World.state c.put_back.new.world) c.put_back.new.room c.in-Done.ensures.puts (g.W.World.state c.drop_newest.new.world) c.drop_newest.ensures
    (g.met.W.EngineWorld.never_delays c.drop_newest.new.world) c.give_doing.ensures c.is_short.ensures.few c.put_back.ensures.awaits

pub returns-in-Done-clause-takes : goal.returns-in-Done-clause-takes
returns-in-Done-clause-takes g c =
    λ writer kept. done_shown c.args.session kept c.requires.joined c.requires.busy (g.met.W.EngineWorld.never_delays c.args.world.now)
    c.index_mut-desk.ensures.value
    (g.W.World.state c.put_back.new.world) c.put_back.new.room c.in-Done.ensures.puts (g.W.World.state c.drop_newest.new.world) c.drop_newest.ensures
    (g.met.W.EngineWorld.never_delays c.drop_newest.new.world) c.give_doing.ensures

pub returns-in-Step-clause-kept : goal.returns-in-Step-clause-kept
returns-in-Step-clause-kept g c =
    λ writer kept. step_kept c.args.session kept c.requires.joined c.requires.busy (g.met.W.EngineWorld.never_delays c.args.world.now)
    c.index_mut-desk.ensures.value
    (g.W.World.state c.put_back.new.world) c.put_back.new.room c.in-Step.ensures.puts (g.met.W.EngineWorld.never_delays c.put_back.new.world)
    c.put_back.ensures.awaits

pub returns-in-Step-clause-takes : goal.returns-in-Step-clause-takes
returns-in-Step-clause-takes g c =
    λ writer kept. step_shown c.args.session kept c.requires.joined c.requires.busy (g.met.W.EngineWorld.never_delays c.args.world.now)
    c.index_mut-desk.ensures.value
    (g.W.World.state c.put_back.new.world) c.put_back.new.room c.in-Step.ensures.puts (g.met.W.EngineWorld.never_delays c.put_back.new.world)
