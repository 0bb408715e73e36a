use Rattle.std.proofs.Common.{refl}
use Rattle.parts_world.proofs.Results.{ok_then}
use Rattle.parts_world.proofs.lock_calls.PartsWorldLockWorld.lock_room.Goals as goal

pub returns-clause-room : goal.returns-clause-room
returns-clause-room g c =
    ok_then c.lock_room.result c.lock_room.ensures.room
    (λ room session work has. rw (← c.self.view_is, ← c.txn-txn.ensures session work has) room)

pub returns-clause-same : goal.returns-clause-same
returns-clause-same g c = rw (← c.self.view_is, c.lock_room.ensures.same) refl
