use Rattle.std.proofs.Common.{◌≤◌, length, arith}
use Rattle.parts_world.specs.Parts.{queue_of}
use Rattle.parts_world.proofs.Sound.{sound_fewer}
use Rattle.parts_world.proofs.Requests.{taken_back_short}
use Rattle.parts_world.proofs.lock_calls.PartsWorldLockWorld.withdraw.Goals as goal

pub invariant_of-self : goal.invariant_of-self
invariant_of-self g c =
    let l = c.self.inside in
    let requests : length c.withdraw.new.self.waiting ≤ length l.locks.waiting =
    rw c.withdraw.ensures (taken_back_short c.txn-txn.result l.locks.granted l.locks.waiting) in
    sound_fewer l.history.room l.rows ((g.I.IndexStore.store l.store).rooms) l.txns.begun (queue_of l.locks.waiting l.fallen) l.sessions.items
    (queue_of c.withdraw.new.self.waiting l.fallen) c.self.invariant requests (omega arith) (omega arith)
