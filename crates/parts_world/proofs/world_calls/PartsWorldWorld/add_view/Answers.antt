use Rattle.std.proofs.Common.{◌≡◌, ◌+◌, ◌<◌, ◌≤◌, ◌^◌, length, Some, refl, sym, ◌∙◌, arith}
use Rattle.std.specs.Prelude.{slice_get, slice_set}
use Rattle.world.specs.State.{HasWork}
use Rattle.world_parts.specs.Owed.{owed_by_all}
use Rattle.parts_world.specs.Parts.{world_of, HaveRooms, queue_of}
use Rattle.world_parts.specs.Rooms.{working}
use Rattle.parts_world.proofs.Sound.{there_of, read_of, sound_set, rooms_same, OpensNone}
use Rattle.world_parts.proofs.Owing.{same_txn, same_owed}
use Rattle.parts_world.proofs.world_calls.PartsWorldWorld.add_view.Goals as goal

pub invariant_of-self-2 : goal.invariant_of-self-2
invariant_of-self-2 g c =
    let l = c.self.inside in
    let session = c.requires.0 in
    let work = c.requires.1 in
    let has : HasWork c.args.s session work (world_of (g.I.IndexStore.store c.args.self.now.store) c.args.self.now) = c.requires.2 in
    let there : slice_get l.sessions.items c.args.s ≡ Some session = there_of c.args.s session c.self.view_is has.session_is in
    let here : c.index_mut.result.now ≡ session = read_of c.args.s session c.index_mut.result.now c.self.view_is has.session_is c.index_mut.ensures.value in
    let room : owed_by_all l.sessions.items + length l.locks.waiting + 1 ≤ c.take_room.new.history.room = rw (c.deref.ensures.value, c.requests.ensures) at c.in_ok-take_room.ensures.ok in
    let fits : owed_by_all l.sessions.items + length l.locks.waiting + 1 < 2 ^ 64 = rw (c.deref.ensures.value, c.requests.ensures) at c.in_ok-take_room.ensures.fits in
    let opens : OpensNone session (working (λ w. record w { view = Some (record { active = c.args.active.now; next = c.args.next }) }) session) = λ txn is.
    sym (same_txn session (λ w. record w { view = Some (record { active = c.args.active.now; next = c.args.next }) }) (λ w. refl)) ∙ is in
    let slot : HaveRooms ((g.I.IndexStore.store l.store).rooms) (slice_set l.sessions.items c.args.s
    (working (λ w. record w { view = Some (record { active = c.args.active.now; next = c.args.next }) }) session)) = rooms_same ((g.I.IndexStore.store l.store).rooms)
    l.sessions.items c.args.s session (working (λ w. record w { view = Some (record { active = c.args.active.now; next = c.args.next }) }) session)
    c.self.invariant.roomy there refl refl in
    let owes = same_owed session.work (λ w. record w { view = Some (record { active = c.args.active.now; next = c.args.next }) }) (λ w. (refl, refl)) in
    rw (c.keep_view.ensures, here, c.in_ok-active.ensures)
    (sound_set l.history.room l.rows ((g.I.IndexStore.store l.store).rooms) l.txns.begun (queue_of l.locks.waiting l.fallen) l.sessions.items c.args.s session
    (working (λ w. record w { view = Some (record { active = c.args.active.now; next = c.args.next }) }) session)
    c.add.new.self.room l.rows ((g.I.IndexStore.store l.store).rooms) c.self.invariant there opens slot
    (omega (arith, owes, c.add.ensures.room, room)) (omega (arith, owes, fits)) (omega (arith, c.self.invariant.counted)))

pub returns-clause-ok : goal.returns-clause-ok
returns-clause-ok g c session work has =
    let here : c.index_mut.result.now ≡ session = read_of c.args.s session c.index_mut.result.now c.self.view_is has.session_is c.index_mut.ensures.value in
    rw (
      ← c.self.view_is,
      c.keep_view.ensures,
      here,
      has.work_is,
      c.in_ok-active.ensures,
      c.add.ensures.past,
      c.add.ensures.names,
      c.in_ok-take_room.ensures.same.past,
      c.in_ok-take_room.ensures.same.names,
    ) refl
