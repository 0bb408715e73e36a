use Rattle.std.proofs.Common.{◌≡◌, ◌+◌, ◌<◌, ◌≤◌, ◌^◌, true, length, Some, refl, ap, arith}
use Rattle.std.specs.Prelude.{slice_get}
use Rattle.std.proofs.lemmas.Option.{slice_get_read}
use Rattle.world.specs.State.{Session}
use Rattle.world_parts.specs.Owed.{owed_by_all}
use Rattle.parts_world.specs.Parts.{Parts, queue_of}
use Rattle.parts_world.proofs.Sound.{read_of, sound_set, rooms_same}
use Rattle.parts_world.proofs.engine_calls.PartsWorldEngineWorld.start.Goals as goal

pub invariant_of-self-2 : goal.invariant_of-self-2
invariant_of-self-2 g c =
    let l = c.self.inside in
    let session = c.index_mut.result.now in
    let there : slice_get l.sessions.items c.args.s ≡ Some session =
    slice_get_read l.sessions.items (length l.sessions.items) c.args.s session refl
    (omega (arith, c.requires, ap (λ (p : Parts _). length p.sessions) c.self.view_is)) c.index_mut.ensures.value in
    let room : owed_by_all l.sessions.items + length l.locks.waiting + 2 ≤ c.take_room.new.history.room = rw (c.deref.ensures.value, c.requests.ensures) at c.in_ok-take_room.ensures.ok in
    let fits : owed_by_all l.sessions.items + length l.locks.waiting + 2 < 2 ^ 64 = rw (c.deref.ensures.value, c.requests.ensures) at c.in_ok-take_room.ensures.fits in
    let new : Session = record session { can_reply = true } in
    rw c.let_reply.ensures (sound_set l.history.room l.rows ((g.I.IndexStore.store l.store).rooms) l.txns.begun (queue_of l.locks.waiting l.fallen) l.sessions.items c.args.s
    session new c.add.new.self.room l.rows ((g.I.IndexStore.store l.store).rooms) c.self.invariant there (λ txn is. is)
    (rooms_same ((g.I.IndexStore.store l.store).rooms) l.sessions.items c.args.s session new c.self.invariant.roomy there refl refl)
    (omega (arith, c.add.ensures.room, room)) (omega (arith, fits)) (omega (arith, c.self.invariant.counted)))

pub returns-clause-ok : goal.returns-clause-ok
returns-clause-ok g c session is =
    let here : c.index_mut.result.now ≡ session = read_of c.args.s session c.index_mut.result.now c.self.view_is is c.index_mut.ensures.value in
    rw (
      ← c.self.view_is,
      c.let_reply.ensures,
      here,
      c.add.ensures.past,
      c.add.ensures.names,
      c.in_ok-take_room.ensures.same.past,
      c.in_ok-take_room.ensures.same.names,
    ) refl
