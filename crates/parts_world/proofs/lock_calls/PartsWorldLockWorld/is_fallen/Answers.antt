use Rattle.std.proofs.Common.{refl}
use Rattle.parts_world.proofs.lock_calls.PartsWorldLockWorld.is_fallen.Goals as goal

pub returns : goal.returns
returns g c session work has = rw (← c.self.view_is, ← c.txn.ensures session work has, c.contains.ensures.value, c.deref.ensures.value) refl
