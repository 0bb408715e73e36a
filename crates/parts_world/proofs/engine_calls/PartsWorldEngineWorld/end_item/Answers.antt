use Rattle.std.proofs.Common.{◌≡◌, ◌+◌, ◌<◌, ◌^◌, false, Some, refl, ap, arith}
use Rattle.std.specs.Prelude.{slice_get}
use Rattle.world.specs.State.{Session}
use Rattle.world_parts.specs.Owed.{owed_of, bit}
use Rattle.parts_world.specs.Parts.{Parts, queue_of}
use Rattle.parts_world.proofs.Sound.{there_of, read_of, part_le, sound_set, rooms_same}
use Rattle.world_parts.proofs.Owing.{puts_few}
use Rattle.parts_world.proofs.engine_calls.PartsWorldEngineWorld.end_item.Goals as goal

pub add-requires : goal.add-requires
add-requires g c =
    let l = c.self.inside in
    let session = c.requires.may.0 in
    let there : slice_get l.sessions.items c.args.s ≡ Some session = there_of c.args.s session c.self.view_is c.requires.may.1 in
    let here : c.index_mut.result.now ≡ session = read_of c.args.s session c.index_mut.result.now c.self.view_is c.requires.may.1 c.index_mut.ensures.value in
    omega (arith, part_le owed_of l.sessions.items c.args.s session there, ap (bit 1) c.requires.may.2, c.self.invariant.enough)

pub invariant_of-self : goal.invariant_of-self
invariant_of-self g c =
    let l = c.self.inside in
    let session = c.requires.may.0 in
    let there : slice_get l.sessions.items c.args.s ≡ Some session = there_of c.args.s session c.self.view_is c.requires.may.1 in
    let here : c.index_mut.result.now ≡ session = read_of c.args.s session c.index_mut.result.now c.self.view_is c.requires.may.1 c.index_mut.ensures.value in
    let few : l.rows + c.rows_of_reply.result < 2 ^ 63 = omega (arith, c.requires.few, c.rows_of_reply.ensures.exact, ap (λ (p : Parts _). p.rows) c.self.view_is) in
    let new : Session = record session { can_reply = false } in
    rw (c.let_reply.ensures, here) (sound_set l.history.room l.rows ((g.I.IndexStore.store l.store).rooms) l.txns.begun (queue_of l.locks.waiting l.fallen) l.sessions.items
    c.args.s session new c.add.new.self.room (l.rows + c.rows_of_reply.result) ((g.I.IndexStore.store l.store).rooms) c.self.invariant there (λ txn is. is)
    (rooms_same ((g.I.IndexStore.store l.store).rooms) l.sessions.items c.args.s session new c.self.invariant.roomy there refl refl)
    (omega (arith, c.add.ensures.room, ap (bit 1) c.requires.may.2, c.self.invariant.enough))
    (omega (arith, c.self.invariant.small, ap (bit 1) c.requires.may.2)) (omega (arith, few, puts_few l.sessions.items, c.self.invariant.few)))

pub returns : goal.returns
returns g c session is =
    let here : c.index_mut.result.now ≡ session = read_of c.args.s session c.index_mut.result.now c.self.view_is is c.index_mut.ensures.value in
    rw (← c.self.view_is, c.let_reply.ensures, here, c.add.ensures.past, c.add.ensures.names, c.rows_of_reply.ensures.exact) refl
