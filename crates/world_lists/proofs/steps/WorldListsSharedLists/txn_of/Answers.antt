use Rattle.world_lists.proofs.Calls.{number_read, never_none}
use Rattle.world_lists.proofs.steps.WorldListsSharedLists.txn_of.Goals as goal

pub unreachable-requires : goal.unreachable-requires
unreachable-requires g c = never_none c.args.session c.self.invariant c.self.view_is c.requires.joined c.session.ensures c.requires.is_open c.in-None.is

pub returns : goal.returns
returns g c = number_read c.args.session c.self.invariant c.self.view_is c.requires.joined c.session.ensures c.in-Some.is
