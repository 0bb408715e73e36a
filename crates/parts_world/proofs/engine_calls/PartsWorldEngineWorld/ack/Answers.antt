use Rattle.std.proofs.Common.{◌≡◌, false, Some, refl, ap, arith}
use Rattle.std.specs.Prelude.{slice_get}
use Rattle.world.specs.State.{Session}
use Rattle.world_parts.specs.Owed.{owed_of, bit}
use Rattle.parts_world.specs.Parts.{queue_of}
use Rattle.parts_world.proofs.Sound.{there_of, read_of, part_le, sound_set, rooms_same}
use Rattle.parts_world.proofs.engine_calls.PartsWorldEngineWorld.ack.Goals as goal

pub add-requires : goal.add-requires
add-requires g c =
    let l = c.self.inside in
    let session = c.requires.0 in
    let there : slice_get l.sessions.items c.args.s ≡ Some session = there_of c.args.s session c.self.view_is c.requires.1 in
    let here : c.index_mut.result.now ≡ session = read_of c.args.s session c.index_mut.result.now c.self.view_is c.requires.1 c.index_mut.ensures.value in
    omega (arith, part_le owed_of l.sessions.items c.args.s session there, ap (bit 1) c.requires.2, c.self.invariant.enough)

pub invariant_of-self : goal.invariant_of-self
invariant_of-self g c =
    let l = c.self.inside in
    let session = c.requires.0 in
    let there : slice_get l.sessions.items c.args.s ≡ Some session = there_of c.args.s session c.self.view_is c.requires.1 in
    let here : c.index_mut.result.now ≡ session = read_of c.args.s session c.index_mut.result.now c.self.view_is c.requires.1 c.index_mut.ensures.value in
    let new : Session = record session { can_ack = false } in
    rw (c.acknowledge.ensures, here) (sound_set l.history.room l.rows ((g.I.IndexStore.store l.store).rooms) l.txns.begun (queue_of l.locks.waiting l.fallen) l.sessions.items
    c.args.s session new c.add.new.self.room l.rows ((g.I.IndexStore.store l.store).rooms) c.self.invariant there (λ txn is. is)
    (rooms_same ((g.I.IndexStore.store l.store).rooms) l.sessions.items c.args.s session new c.self.invariant.roomy there refl refl)
    (omega (arith, c.add.ensures.room, ap (bit 1) c.requires.2, c.self.invariant.enough)) (omega (arith, c.self.invariant.small, ap (bit 1) c.requires.2))
    (omega (arith, c.self.invariant.counted)))

pub returns : goal.returns
returns g c session is =
    let here : c.index_mut.result.now ≡ session = read_of c.args.s session c.index_mut.result.now c.self.view_is is c.index_mut.ensures.value in
    rw (← c.self.view_is, c.acknowledge.ensures, here, c.add.ensures.past, c.add.ensures.names) refl
