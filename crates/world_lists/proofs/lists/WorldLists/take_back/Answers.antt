use Rattle.std.proofs.Common.{length, ◌-◌, subst}
use Rattle.inno_model.specs.Past.{own}
use Rattle.shared_lists.specs.State.{Lists}
use Rattle.desks.specs.Shown.{lists_of}
use Rattle.law_held_steps.specs.Making.{TakesBackIn}
use Rattle.world_lists.specs.Between.{store_of}
use Rattle.world_lists.proofs.TakingBack.{is_busy}
use Rattle.world_lists.proofs.lists.WorldLists.take_back.Goals as goal

pub take_newest_back-requires-clause-busy : goal.take_newest_back-requires-clause-busy
take_newest_back-requires-clause-busy g c = is_busy c.args.session c.self.invariant c.self.view_is c.requires.task

pub returns : goal.returns
returns g c =
    subst (λ (was : Lists). TakesBackIn c.args.session (length (own c.args.session was.state.past) - 1) was (lists_of (store_of
    (g.W.World.state c.take_newest_back.new.world) c.self.inside.writer c.take_newest_back.new.desks.items c.take_newest_back.new.cuts))
    c.take_newest_back.result) c.self.view_is (c.take_newest_back.ensures.takes c.self.inside.writer c.self.invariant)

pub invariant_of-self : goal.invariant_of-self
invariant_of-self g c = c.take_newest_back.ensures.kept c.self.inside.writer c.self.invariant
