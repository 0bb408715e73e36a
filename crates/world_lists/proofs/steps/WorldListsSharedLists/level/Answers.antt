use Rattle.world_lists.proofs.Calls.{level_read, no_level_read}
use Rattle.world_lists.proofs.steps.WorldListsSharedLists.level.Goals as goal

pub returns-in-Some-clause-level : goal.returns-in-Some-clause-level
returns-in-Some-clause-level g c = level_read c.args.session c.self.invariant c.self.view_is c.requires c.session-standing.ensures c.in-Some.is

pub returns-in-None-clause-level : goal.returns-in-None-clause-level
returns-in-None-clause-level g c = no_level_read c.args.session c.self.invariant c.self.view_is c.requires c.session-standing.ensures c.in-None.is
