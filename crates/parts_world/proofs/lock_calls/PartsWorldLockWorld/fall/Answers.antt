use Rattle.std.proofs.Common.{◌≡◌, ℕ, ◌+◌, ◌<◌, true, length, length-append, List, [], ◌∷◌, refl, ap, ◌∙◌, arith}
use Rattle.world.specs.State.{Session, Work}
use Rattle.lock_table.specs.Queue.{is_waiting}
use Rattle.parts_world.specs.Parts.{queue_of}
use Rattle.parts_world.proofs.Sound.{sound_queue}
use Rattle.parts_world.proofs.Requests.{fallen_short}
use Rattle.parts_world.proofs.lock_calls.PartsWorldLockWorld.fall.Goals as goal

pub invariant_of-self : goal.invariant_of-self
invariant_of-self g c =
    let l = c.self.inside in
    let session : Session = c.requires.0 in
    let work : Work = c.requires.1 in
    let victim : c.txn-victim.result ≡ work.txn = c.txn-victim.ensures session work c.requires.2 in
    let waits : is_waiting c.txn-victim.result l.locks.waiting ≡ true = rw (← c.self.view_is, ← victim) at c.requires.3 in
    let fewer : length c.withdraw.new.self.waiting < length l.locks.waiting =
    rw c.withdraw.ensures (fallen_short c.txn-victim.result l.locks.granted l.locks.waiting waits) in
    let one : length c.push_reserved.new.self.items ≡ length l.fallen.items + 1 =
    ap (λ (xs : List ℕ). length xs) c.push_reserved.ensures.items ∙ length-append l.fallen.items (c.txn-victim.result ∷ []) in
    sound_queue l.history.room l.rows ((g.I.IndexStore.store l.store).rooms) l.txns.begun (queue_of l.locks.waiting l.fallen) l.sessions.items
    c.add.new.self.room (queue_of c.withdraw.new.self.waiting c.push_reserved.new.self) c.self.invariant
    (omega (arith, c.self.invariant.enough, fewer, c.add.ensures.room)) (omega (arith, c.self.invariant.small, fewer))
    (omega (arith, c.self.invariant.victims, fewer, one, c.push_reserved.ensures.capacity))

pub returns : goal.returns
returns g c session work has =
    let victim : c.txn-victim.result ≡ work.txn = c.txn-victim.ensures session work has in
    rw (← c.self.view_is, c.add.ensures.past, c.add.ensures.names, c.withdraw.ensures, c.push_reserved.ensures.items, victim) refl
