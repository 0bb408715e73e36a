use Rattle.std.proofs.Common.{◌∙◌}
use Rattle.lock_lists.specs.Looking.{passes}
use Rattle.lock_lists.proofs.Locks.{any_from}
use Rattle.lock_lists.proofs.granted.GrantedLocks.any.Goals as goal

pub returns : goal.returns
returns c = c.is_some.ensures ∙ any_from (passes c.args.sought) c.args.self.now.places c.next.result c.next.ensures.found c.next.ensures.none
