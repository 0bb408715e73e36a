use Rattle.std.proofs.Common.{◌≡◌, ◌+◌, ◌<◌, ◌≤◌, ◌^◌, true, false, length, Some, refl, ap, sym, ◌∙◌, arith}
use Rattle.std.specs.Prelude.{slice_get, slice_set}
use Rattle.world.specs.State.{Session, HasWork}
use Rattle.world_parts.specs.Owed.{owed_of, owed_by_all, bit}
use Rattle.parts_world.specs.Parts.{world_of, HaveRooms, queue_of}
use Rattle.world_parts.specs.Rooms.{working}
use Rattle.parts_world.proofs.Sound.{there_of, read_of, part_le, sound_set, rooms_same, OpensNone}
use Rattle.world_parts.proofs.Owing.{bit_le, same_txn, owes_begun}
use Rattle.parts_world.proofs.world_calls.PartsWorldWorld.add_begin.Goals as goal

pub add-requires : goal.add-requires
add-requires g c =
    let l = c.self.inside in
    let session = c.requires.0 in
    let work = c.requires.1 in
    let has : HasWork c.args.s session work (world_of (g.I.IndexStore.store c.args.self.now.store) c.args.self.now) = c.requires.2 in
    let there : slice_get l.sessions.items c.args.s ≡ Some session = there_of c.args.s session c.self.view_is has.session_is in
    let here : c.index_mut.result.now ≡ session = read_of c.args.s session c.index_mut.result.now c.self.view_is has.session_is c.index_mut.ensures.value in
    let owed : c.can_begin-owed.result ≡ session.can_begin =
    c.can_begin-owed.ensures ∙ ap (λ (x : Session). x.can_begin)
    (read_of c.args.s session c.index.result.now c.self.view_is has.session_is c.index.ensures) in
    let room : owed_by_all l.sessions.items + length l.locks.waiting + 3 ≤ c.take_room_unless.new.history.room + bit 3 session.can_begin =
    rw (c.deref.ensures.value, c.requests.ensures, owed) at c.in_ok-take_room_unless.ensures.ok in
    let fits : owed_by_all l.sessions.items + length l.locks.waiting + 3 < 2 ^ 64 + bit 3 session.can_begin =
    rw (c.deref.ensures.value, c.requests.ensures, owed) at c.in_ok-take_room_unless.ensures.fits in
    omega (arith, room, bit_le 3 session.can_begin, part_le owed_of l.sessions.items c.args.s session there, owes_begun session work has.work_is)

pub invariant_of-self-2 : goal.invariant_of-self-2
invariant_of-self-2 g c =
    let l = c.self.inside in
    let session = c.requires.0 in
    let work = c.requires.1 in
    let has : HasWork c.args.s session work (world_of (g.I.IndexStore.store c.args.self.now.store) c.args.self.now) = c.requires.2 in
    let there : slice_get l.sessions.items c.args.s ≡ Some session = there_of c.args.s session c.self.view_is has.session_is in
    let here : c.index_mut.result.now ≡ session = read_of c.args.s session c.index_mut.result.now c.self.view_is has.session_is c.index_mut.ensures.value in
    let owed : c.can_begin-owed.result ≡ session.can_begin =
    c.can_begin-owed.ensures ∙ ap (λ (x : Session). x.can_begin)
    (read_of c.args.s session c.index.result.now c.self.view_is has.session_is c.index.ensures) in
    let room : owed_by_all l.sessions.items + length l.locks.waiting + 3 ≤ c.take_room_unless.new.history.room + bit 3 session.can_begin =
    rw (c.deref.ensures.value, c.requests.ensures, owed) at c.in_ok-take_room_unless.ensures.ok in
    let fits : owed_by_all l.sessions.items + length l.locks.waiting + 3 < 2 ^ 64 + bit 3 session.can_begin =
    rw (c.deref.ensures.value, c.requests.ensures, owed) at c.in_ok-take_room_unless.ensures.fits in
    let opens : OpensNone session (working (λ w. record w { can_end = true }) (record session { can_begin = false })) = λ txn is. sym
    (same_txn session (λ w. record w { can_end = true }) (λ w. refl)) ∙ is in
    let slot : HaveRooms ((g.I.IndexStore.store l.store).rooms) (slice_set l.sessions.items c.args.s (working (λ w. record w { can_end = true }) (record session { can_begin = false })))
    = rooms_same ((g.I.IndexStore.store l.store).rooms) l.sessions.items c.args.s session (working (λ w. record w { can_end = true }) (record session { can_begin = false }))
    c.self.invariant.roomy there refl refl in
    rw (c.begun.ensures, here) (sound_set l.history.room l.rows ((g.I.IndexStore.store l.store).rooms) l.txns.begun (queue_of l.locks.waiting l.fallen) l.sessions.items c.args.s
    session (working (λ w. record w { can_end = true }) (record session { can_begin = false }))
    c.add.new.self.room l.rows ((g.I.IndexStore.store l.store).rooms) c.self.invariant there opens slot
    (omega (arith, owes_begun session work has.work_is, c.add.ensures.room, room)) (omega (arith, owes_begun session work has.work_is, fits))
    (omega (arith, c.self.invariant.counted)))

pub returns-clause-ok : goal.returns-clause-ok
returns-clause-ok g c session work has =
    let here : c.index_mut.result.now ≡ session = read_of c.args.s session c.index_mut.result.now c.self.view_is has.session_is c.index_mut.ensures.value in
    rw (
      ← c.self.view_is,
      c.begun.ensures,
      here,
      has.work_is,
      c.add.ensures.past,
      c.add.ensures.names,
      c.in_ok-take_room_unless.ensures.same.past,
      c.in_ok-take_room_unless.ensures.same.names,
    ) refl
