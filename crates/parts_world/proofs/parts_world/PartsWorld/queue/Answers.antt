use Rattle.std.proofs.Common.{◌≡◌, ℕ, true, length, List, refl, ap, arith}
use Rattle.lock_table.specs.View.{must_wait, IsAnswered}
use Rattle.parts_world.specs.Parts.{queue_of}
use Rattle.parts_world.proofs.Sound.{sound_fewer}
use Rattle.parts_world.proofs.Requests.{refused_here, unqueued}
use Rattle.parts_world.proofs.parts_world.PartsWorld.queue.Goals as goal

pub invariant_of-self : goal.invariant_of-self
invariant_of-self g c =
    let l = c.self.inside in
    sound_fewer l.history.room l.rows ((g.I.IndexStore.store l.store).rooms) l.txns.begun (queue_of l.locks.waiting l.fallen) l.sessions.items
    (queue_of l.locks.waiting c.reserve.new.self) c.self.invariant (omega arith) (omega (arith, ap (λ (xs : List ℕ). length xs) c.reserve.ensures.items))
    c.reserve.ensures.capacity

pub returns-in_default : goal.returns-in_default
returns-in_default g c =
    let waits : must_wait c.self.inside.locks c.args.lock ≡ true = rw (← c.self.view_is) at c.requires.waits in
    rw (← c.self.view_is, c.reserve.ensures.items) (refused_here c.self.inside.locks c.args.lock waits, refl)

pub returns-in_default-take_room : goal.returns-in_default-take_room
returns-in_default-take_room g c =
    let waits : must_wait c.self.inside.locks c.args.lock ≡ true = rw (← c.self.view_is) at c.requires.waits in
    rw (← c.self.view_is, c.reserve.ensures.items, c.in_default-take_room.ensures.err) (refused_here c.self.inside.locks c.args.lock waits, refl)

pub returns-in_default-copied : goal.returns-in_default-copied
returns-in_default-copied g c =
    let waits : must_wait c.self.inside.locks c.args.lock ≡ true = rw (← c.self.view_is) at c.requires.waits in
    rw (← c.self.view_is, c.reserve.ensures.items, c.in-Ok-take_room.ensures.same.past, c.in-Ok-take_room.ensures.same.names) (refused_here c.self.inside.locks c.args.lock waits, refl)

pub returns-in-Waits : goal.returns-in-Waits
returns-in-Waits g c = record {
  edges = c.in-Waits.blockers;
  queued = rw (← c.self.view_is, ← c.in-Ok-copied.ensures) c.in-Waits.ensures;
  rest = rw (
    ← c.self.view_is,
    c.reserve.ensures.items,
    c.add.ensures.past,
    c.add.ensures.names,
    c.in-Ok-take_room.ensures.same.past,
    c.in-Ok-take_room.ensures.same.names,
  ) refl;
}

pub returns-in_default-request : goal.returns-in_default-request
returns-in_default-request g c =
    let waits : must_wait c.self.inside.locks c.args.lock ≡ true = rw (← c.self.view_is) at c.requires.waits in
    let answered : IsAnswered c.self.inside.locks c.request.new.self c.args.lock c.request.result = rw c.in-Ok-copied.ensures at c.request.ensures in
    rw (← c.self.view_is, c.reserve.ensures.items, c.in-Ok-take_room.ensures.same.past, c.in-Ok-take_room.ensures.same.names)
    (unqueued c.self.inside.locks c.request.new.self c.args.lock c.request.result waits answered c.in_default-request.not-Waits, refl)
