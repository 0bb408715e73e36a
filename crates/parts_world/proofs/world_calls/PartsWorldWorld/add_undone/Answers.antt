use Rattle.std.proofs.Common.{◌≡◌, ◌-◌, Some, refl, sym, ◌∙◌, arith}
use Rattle.std.specs.Prelude.{slice_get, slice_set}
use Rattle.world.specs.State.{HasWork}
use Rattle.world_parts.specs.Owed.{owed_of}
use Rattle.parts_world.specs.Parts.{world_of, HaveRooms, queue_of}
use Rattle.world_parts.specs.Rooms.{working}
use Rattle.parts_world.proofs.Sound.{there_of, read_of, part_le, sound_set, rooms_same, OpensNone}
use Rattle.world_parts.proofs.Owing.{same_txn, owes_undone, owes_own}
use Rattle.parts_world.proofs.world_calls.PartsWorldWorld.add_undone.Goals as goal

pub add-requires : goal.add-requires
add-requires g c =
    let l = c.self.inside in
    let session = c.requires.0 in
    let work = c.requires.1 in
    let has : HasWork c.args.s session work (world_of (g.I.IndexStore.store c.args.self.now.store) c.args.self.now) = c.requires.2 in
    let there : slice_get l.sessions.items c.args.s ≡ Some session = there_of c.args.s session c.self.view_is has.session_is in
    let here : c.index_mut.result.now ≡ session = read_of c.args.s session c.index_mut.result.now c.self.view_is has.session_is c.index_mut.ensures.value in
    omega (arith, part_le owed_of l.sessions.items c.args.s session there, owes_own session work has.work_is, c.requires.3, c.self.invariant.enough)

pub invariant_of-self : goal.invariant_of-self
invariant_of-self g c =
    let l = c.self.inside in
    let session = c.requires.0 in
    let work = c.requires.1 in
    let has : HasWork c.args.s session work (world_of (g.I.IndexStore.store c.args.self.now.store) c.args.self.now) = c.requires.2 in
    let there : slice_get l.sessions.items c.args.s ≡ Some session = there_of c.args.s session c.self.view_is has.session_is in
    let here : c.index_mut.result.now ≡ session = read_of c.args.s session c.index_mut.result.now c.self.view_is has.session_is c.index_mut.ensures.value in
    let opens : OpensNone session (working (λ w. record w { own = w.own - 1 }) session) = λ txn is. sym
    (same_txn session (λ w. record w { own = w.own - 1 }) (λ w. refl)) ∙ is in
    let slot : HaveRooms ((g.I.IndexStore.store l.store).rooms) (slice_set l.sessions.items c.args.s (working (λ w. record w { own = w.own - 1 }) session)) = rooms_same ((g.I.IndexStore.store l.store).rooms)
    l.sessions.items c.args.s session (working (λ w. record w { own = w.own - 1 }) session) c.self.invariant.roomy there refl refl in
    rw (c.undone.ensures, here) (sound_set l.history.room l.rows ((g.I.IndexStore.store l.store).rooms) l.txns.begun (queue_of l.locks.waiting l.fallen) l.sessions.items c.args.s
    session (working (λ w. record w { own = w.own - 1 }) session)
    c.add.new.self.room l.rows ((g.I.IndexStore.store l.store).rooms) c.self.invariant there opens slot
    (omega (arith, owes_undone session work has.work_is c.requires.3, c.add.ensures.room, c.self.invariant.enough))
    (omega (arith, owes_undone session work has.work_is c.requires.3, c.self.invariant.small)) (omega (arith, c.self.invariant.counted)))

pub returns : goal.returns
returns g c session work has =
    let here : c.index_mut.result.now ≡ session = read_of c.args.s session c.index_mut.result.now c.self.view_is has.session_is c.index_mut.ensures.value in
    rw (← c.self.view_is, c.undone.ensures, here, has.work_is, c.add.ensures.past, c.add.ensures.names) refl
