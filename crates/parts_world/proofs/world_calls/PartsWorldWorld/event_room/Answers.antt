use Rattle.std.proofs.Common.{◌≡◌, ◌+◌, ◌<◌, ◌≤◌, ◌^◌, true, length, Some, refl, ap, arith}
use Rattle.std.specs.Prelude.{slice_get}
use Rattle.world.specs.State.{Session}
use Rattle.world_parts.specs.Owed.{owed_by_all}
use Rattle.parts_world.specs.Parts.{Parts, queue_of}
use Rattle.parts_world.proofs.Sound.{read_of, sound_set, rooms_same}
use Rattle.world_parts.proofs.Owing.{bit_le, puts_few}
use Rattle.std.proofs.lemmas.Option.{slice_get_read}
use Rattle.parts_world.proofs.world_calls.PartsWorldWorld.event_room.Goals as goal

pub invariant_of-self-2 : goal.invariant_of-self-2
invariant_of-self-2 g c =
    let l = c.self.inside in
    let session = c.index_mut.result.now in
    let there : slice_get l.sessions.items c.args.s ≡ Some session =
    slice_get_read l.sessions.items (length l.sessions.items) c.args.s session refl
    (omega (arith, c.requires, ap (λ (p : Parts _). length p.sessions) c.self.view_is)) c.index_mut.ensures.value in
    let room : owed_by_all l.sessions.items + length l.locks.waiting + 5 ≤ c.take_room.new.history.room = rw (c.deref.ensures.value, c.requests.ensures) at c.in_ok-take_room.ensures.ok in
    let fits : owed_by_all l.sessions.items + length l.locks.waiting + 5 < 2 ^ 64 = rw (c.deref.ensures.value, c.requests.ensures) at c.in_ok-take_room.ensures.fits in
    let new : Session = record session { can_begin = true; can_change = true } in
    rw c.let_begin_and_change.ensures (sound_set l.history.room l.rows ((g.I.IndexStore.store l.store).rooms) l.txns.begun (queue_of l.locks.waiting l.fallen) l.sessions.items
    c.args.s session new
    c.take_room.new.history.room l.rows ((g.I.IndexStore.store l.store).rooms) c.self.invariant there (λ txn is. is)
    (rooms_same ((g.I.IndexStore.store l.store).rooms) l.sessions.items c.args.s session new c.self.invariant.roomy there refl refl)
    (omega (arith, room, bit_le 1 session.can_reply)) (omega (arith, fits))
    (omega (arith, puts_few l.sessions.items, c.self.invariant.few, c.if-self-ge-MANY_ROWS.false)))

pub returns-clause-ok : goal.returns-clause-ok
returns-clause-ok g c session is =
    let here : c.index_mut.result.now ≡ session = read_of c.args.s session c.index_mut.result.now c.self.view_is is c.index_mut.ensures.value in
    rw (← c.self.view_is, c.let_begin_and_change.ensures, here, c.in_ok-take_room.ensures.same.past, c.in_ok-take_room.ensures.same.names) refl
