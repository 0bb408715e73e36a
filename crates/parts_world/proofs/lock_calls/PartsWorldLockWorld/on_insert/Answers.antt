use Rattle.std.proofs.Common.{refl}
use Rattle.parts_world.proofs.lock_calls.PartsWorldLockWorld.on_insert.Goals as goal

pub grant_new-requires-clause-free : goal.grant_new-requires-clause-free
grant_new-requires-clause-free g c = rw (← c.self.view_is) at c.requires.free

pub returns : goal.returns
returns g c = rw (← c.self.view_is, c.grant_new.ensures) refl
