use Rattle.world_lists.proofs.Calls.{own_read}
use Rattle.world_lists.proofs.steps.WorldListsSharedLists.change_count.Goals as goal

pub returns : goal.returns
returns g c = own_read c.args.session c.self.invariant c.self.view_is c.requires c.session.ensures
