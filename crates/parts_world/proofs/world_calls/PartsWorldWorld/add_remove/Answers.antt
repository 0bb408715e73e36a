use Rattle.std.proofs.lemmas.Grind.{elements}
use Rattle.std.proofs.Common.{add-zero, ◌≡◌, ◌+◌, ◌<◌, ◌≤◌, ◌^◌, false, length, Some, refl, ap, sym, ◌∙◌, arith}
use Rattle.std.specs.Prelude.{slice_get, slice_set}
use Rattle.world.specs.State.{Session, HasWork}
use Rattle.world_parts.specs.Owed.{owed_of, owed_by_all, bit}
use Rattle.parts_world.specs.Parts.{world_of, HaveRooms, queue_of}
use Rattle.world_parts.specs.Rooms.{working}
use Rattle.parts_world.proofs.Sound.{there_of, read_of, part_le, sound_set, rooms_same, OpensNone}
use Rattle.world_parts.proofs.Owing.{bit_le, same_txn, owes_changed, owes_count}
use Rattle.parts_world.proofs.world_calls.PartsWorldWorld.add_remove.Goals as goal

pub changed-requires : goal.changed-requires
changed-requires g c =
    let l = c.self.inside in
    let session = c.requires.0 in
    let work = c.requires.1 in
    let has : HasWork c.args.s session work (world_of (g.I.IndexStore.store c.args.self.now.store) c.args.self.now) = c.requires.2 in
    let there : slice_get l.sessions.items c.args.s ≡ Some session = there_of c.args.s session c.self.view_is has.session_is in
    let here : c.index_mut.result.now ≡ session = read_of c.args.s session c.index_mut.result.now c.self.view_is has.session_is c.index_mut.ensures.value in
    let owed : c.can_change-owed.result ≡ session.can_change =
    c.can_change-owed.ensures ∙ ap (λ (x : Session). x.can_change)
    (read_of c.args.s session c.index.result.now c.self.view_is has.session_is c.index.ensures) in
    let room : owed_by_all l.sessions.items + length l.locks.waiting + 2 ≤ c.take_room_unless.new.history.room + bit 2 session.can_change =
    rw (c.deref.ensures.value, c.requests.ensures, owed) at c.in_ok-take_room_unless.ensures.ok in
    let fits : owed_by_all l.sessions.items + length l.locks.waiting + 2 < 2 ^ 64 + bit 2 session.can_change =
    rw (c.deref.ensures.value, c.requests.ensures, owed) at c.in_ok-take_room_unless.ensures.fits in
    rw (here, has.work_is) (omega (arith, fits, owes_count session work has.work_is, part_le owed_of l.sessions.items c.args.s session there))

pub add-requires : goal.add-requires
add-requires g c =
    let l = c.self.inside in
    let session = c.requires.0 in
    let work = c.requires.1 in
    let has : HasWork c.args.s session work (world_of (g.I.IndexStore.store c.args.self.now.store) c.args.self.now) = c.requires.2 in
    let there : slice_get l.sessions.items c.args.s ≡ Some session = there_of c.args.s session c.self.view_is has.session_is in
    let here : c.index_mut.result.now ≡ session = read_of c.args.s session c.index_mut.result.now c.self.view_is has.session_is c.index_mut.ensures.value in
    let owed : c.can_change-owed.result ≡ session.can_change =
    c.can_change-owed.ensures ∙ ap (λ (x : Session). x.can_change)
    (read_of c.args.s session c.index.result.now c.self.view_is has.session_is c.index.ensures) in
    let room : owed_by_all l.sessions.items + length l.locks.waiting + 2 ≤ c.take_room_unless.new.history.room + bit 2 session.can_change =
    rw (c.deref.ensures.value, c.requests.ensures, owed) at c.in_ok-take_room_unless.ensures.ok in
    let fits : owed_by_all l.sessions.items + length l.locks.waiting + 2 < 2 ^ 64 + bit 2 session.can_change =
    rw (c.deref.ensures.value, c.requests.ensures, owed) at c.in_ok-take_room_unless.ensures.fits in
    omega (arith, room, bit_le 2 session.can_change, owes_count session work has.work_is, part_le owed_of l.sessions.items c.args.s session there)

pub invariant_of-self-2 : goal.invariant_of-self-2
invariant_of-self-2 g c =
    let l = c.self.inside in
    let session = c.requires.0 in
    let work = c.requires.1 in
    let has : HasWork c.args.s session work (world_of (g.I.IndexStore.store c.args.self.now.store) c.args.self.now) = c.requires.2 in
    let there : slice_get l.sessions.items c.args.s ≡ Some session = there_of c.args.s session c.self.view_is has.session_is in
    let here : c.index_mut.result.now ≡ session = read_of c.args.s session c.index_mut.result.now c.self.view_is has.session_is c.index_mut.ensures.value in
    let owed : c.can_change-owed.result ≡ session.can_change =
    c.can_change-owed.ensures ∙ ap (λ (x : Session). x.can_change)
    (read_of c.args.s session c.index.result.now c.self.view_is has.session_is c.index.ensures) in
    let room : owed_by_all l.sessions.items + length l.locks.waiting + 2 ≤ c.take_room_unless.new.history.room + bit 2 session.can_change =
    rw (c.deref.ensures.value, c.requests.ensures, owed) at c.in_ok-take_room_unless.ensures.ok in
    let fits : owed_by_all l.sessions.items + length l.locks.waiting + 2 < 2 ^ 64 + bit 2 session.can_change =
    rw (c.deref.ensures.value, c.requests.ensures, owed) at c.in_ok-take_room_unless.ensures.fits in
    let opens : OpensNone session (working (λ w. record w { own = w.own + 1 }) (record session { can_change = false })) = λ txn is. sym
    (same_txn session (λ w. record w { own = w.own + 1 }) (λ w. refl)) ∙ is in
    let slot : HaveRooms ((g.I.IndexStore.store l.store).rooms) (slice_set l.sessions.items c.args.s
    (working (λ w. record w { own = w.own + 1 }) (record session { can_change = false }))) = rooms_same ((g.I.IndexStore.store l.store).rooms) l.sessions.items c.args.s session
    (working (λ w. record w { own = w.own + 1 }) (record session { can_change = false })) c.self.invariant.roomy there refl refl in
    rw (c.changed.ensures, here) (sound_set l.history.room l.rows ((g.I.IndexStore.store l.store).rooms) l.txns.begun (queue_of l.locks.waiting l.fallen) l.sessions.items c.args.s
    session (working (λ w. record w { own = w.own + 1 }) (record session { can_change = false }))
    c.add.new.self.room l.rows ((g.I.IndexStore.store l.store).rooms) c.self.invariant there opens slot
    (omega (arith, owes_changed session work has.work_is, c.add.ensures.room, room)) (omega (arith, owes_changed session work has.work_is, fits))
    (omega (arith, c.self.invariant.counted)))

pub returns-clause-ok : goal.returns-clause-ok
returns-clause-ok g c session work has =
    let here : c.index_mut.result.now ≡ session = read_of c.args.s session c.index_mut.result.now c.self.view_is has.session_is c.index_mut.ensures.value in
    rw (
      ← c.self.view_is,
      c.changed.ensures,
      here,
      has.work_is,
      c.add.ensures.past,
      c.add.ensures.names,
      c.in_ok-take_room_unless.ensures.same.past,
      c.in_ok-take_room_unless.ensures.same.names,
      add-zero,
    ) refl

pub returns-in_err-take_room_unless-clause-sure : goal.returns-in_err-take_room_unless-clause-sure
returns-in_err-take_room_unless-clause-sure g c = grind (arith, elements) steps 2000000
