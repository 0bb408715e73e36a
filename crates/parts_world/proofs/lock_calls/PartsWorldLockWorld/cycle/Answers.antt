use Rattle.std.proofs.Common.{refl}
use Rattle.parts_world.proofs.lock_calls.PartsWorldLockWorld.cycle.Goals as goal

pub returns-clause-same : goal.returns-clause-same
returns-clause-same g c = rw (← c.self.view_is, ← c.cycle_through.ensures.rest) refl
