use Rattle.world_lists.proofs.Calls.{view_read}
use Rattle.world_lists.proofs.steps.WorldListsSharedLists.has_view.Goals as goal

pub returns : goal.returns
returns g c = view_read c.args.session c.self.invariant c.self.view_is c.requires.joined c.requires.is_open c.has_view.ensures
