use Rattle.world_lists.proofs.Calls.{setting_read}
use Rattle.world_lists.proofs.steps.WorldListsSharedLists.setting.Goals as goal

pub returns : goal.returns
returns g c = setting_read c.args.session c.self.invariant c.self.view_is c.requires c.settings.ensures
