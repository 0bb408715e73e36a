use Rattle.world_lists.proofs.TakingBack.{may_read, read_kept, read_shown}
use Rattle.world_lists.proofs.lists.WorldLists.read_record.Goals as goal

pub last-requires-clause-holds : goal.last-requires-clause-holds
last-requires-clause-holds g c = may_read c.args.session c.self.invariant c.self.view_is c.requires.joined c.index_mut.ensures.value

pub invariant_of-self : goal.invariant_of-self
invariant_of-self g c =
    read_kept c.args.session c.self.invariant c.self.view_is c.requires.joined c.index_mut.ensures.value c.requires.may c.requires.task c.requires.waits
    (g.W.World.state c.last.new.self) c.last.new.into c.last.new.there (g.met.W.EngineWorld.never_delays c.last.new.self) c.in-Done.ensures.answer
    c.give_doing.ensures c.last.ensures.room

pub returns : goal.returns
returns g c =
    read_shown c.args.session c.self.invariant c.self.view_is c.requires.joined c.index_mut.ensures.value c.requires.may c.requires.task c.requires.waits
    (g.W.World.state c.last.new.self) c.last.new.into c.last.new.there (g.met.W.EngineWorld.never_delays c.last.new.self) c.in-Done.ensures.answer
    c.give_doing.ensures
