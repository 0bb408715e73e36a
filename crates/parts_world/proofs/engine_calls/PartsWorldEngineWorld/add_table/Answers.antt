use Rattle.std.proofs.Common.{◌≡◌, ◌+◌, ◌<◌, ◌≤◌, ◌^◌, length, Some, refl, sym, ◌∙◌, arith}
use Rattle.std.specs.Prelude.{slice_get}
use Rattle.index_store.specs.Undoing.{MakesTable}
use Rattle.world.specs.State.{Session, Work, HasWork}
use Rattle.world_parts.specs.Owed.{owed_of, owed_by_all}
use Rattle.world_parts.specs.Rooms.{working}
use Rattle.world_parts.proofs.Owing.{same_txn, owes_made, owes_own}
use Rattle.parts_world.specs.Parts.{world_of, queue_of}
use Rattle.parts_world.proofs.Lifting.{makes_table, rooms_with_table}
use Rattle.parts_world.proofs.Sound.{there_of, read_of, part_le, sound_set, sound_rooms, rooms_same}
use Rattle.parts_world.proofs.engine_calls.PartsWorldEngineWorld.add_table.Goals as goal

pub made_table-requires : goal.made_table-requires
made_table-requires g c =
    let l = c.self.inside in
    let session : Session = c.requires.may.0 in
    let work : Work = c.requires.may.1 in
    let has : HasWork c.args.s session work (world_of (g.I.IndexStore.store c.args.self.now.store) c.args.self.now) = c.requires.may.2 in
    let there : slice_get l.sessions.items c.args.s ≡ Some session = there_of c.args.s session c.self.view_is has.session_is in
    let here : c.index_mut.result.now ≡ session = read_of c.args.s session c.index_mut.result.now c.self.view_is has.session_is c.index_mut.ensures.value in
    let room : owed_by_all l.sessions.items + length l.locks.waiting + 2 ≤ c.take_room.new.history.room = rw (c.deref.ensures.value, c.requests.ensures) at c.in-Ok.ensures.ok in
    let fits : owed_by_all l.sessions.items + length l.locks.waiting + 2 < 2 ^ 64 = rw (c.deref.ensures.value, c.requests.ensures) at c.in-Ok.ensures.fits in
    rw (here, has.work_is) (omega (arith, fits, owes_own session work has.work_is, part_le owed_of l.sessions.items c.args.s session there))

pub add-requires : goal.add-requires
add-requires g c =
    let l = c.self.inside in
    let session : Session = c.requires.may.0 in
    let work : Work = c.requires.may.1 in
    let has : HasWork c.args.s session work (world_of (g.I.IndexStore.store c.args.self.now.store) c.args.self.now) = c.requires.may.2 in
    let there : slice_get l.sessions.items c.args.s ≡ Some session = there_of c.args.s session c.self.view_is has.session_is in
    let here : c.index_mut.result.now ≡ session = read_of c.args.s session c.index_mut.result.now c.self.view_is has.session_is c.index_mut.ensures.value in
    let room : owed_by_all l.sessions.items + length l.locks.waiting + 2 ≤ c.take_room.new.history.room = rw (c.deref.ensures.value, c.requests.ensures) at c.in-Ok.ensures.ok in
    let fits : owed_by_all l.sessions.items + length l.locks.waiting + 2 < 2 ^ 64 = rw (c.deref.ensures.value, c.requests.ensures) at c.in-Ok.ensures.fits in
    omega (arith, room)

pub invariant_of-self-2 : goal.invariant_of-self-2
invariant_of-self-2 g c =
    let l = c.self.inside in
    let session : Session = c.requires.may.0 in
    let work : Work = c.requires.may.1 in
    let has : HasWork c.args.s session work (world_of (g.I.IndexStore.store c.args.self.now.store) c.args.self.now) = c.requires.may.2 in
    let there : slice_get l.sessions.items c.args.s ≡ Some session = there_of c.args.s session c.self.view_is has.session_is in
    let here : c.index_mut.result.now ≡ session = read_of c.args.s session c.index_mut.result.now c.self.view_is has.session_is c.index_mut.ensures.value in
    let room : owed_by_all l.sessions.items + length l.locks.waiting + 2 ≤ c.take_room.new.history.room = rw (c.deref.ensures.value, c.requests.ensures) at c.in-Ok.ensures.ok in
    let fits : owed_by_all l.sessions.items + length l.locks.waiting + 2 < 2 ^ 64 = rw (c.deref.ensures.value, c.requests.ensures) at c.in-Ok.ensures.fits in
    let made : Work → Work = λ w. record w { own = w.own + 1 } in
    let new : Session = working made session in
    let table : MakesTable c.args.schema (g.I.IndexStore.store l.store) (g.I.IndexStore.store c.make_table.new.self) = c.in-Ok-make_table.ensures.ok in
    rw (c.made_table.ensures, here) (sound_rooms _ _ _ _ _ _ _
    (sound_set l.history.room l.rows ((g.I.IndexStore.store l.store).rooms) l.txns.begun (queue_of l.locks.waiting l.fallen) l.sessions.items c.args.s session new
    c.add.new.self.room l.rows ((g.I.IndexStore.store l.store).rooms) c.self.invariant there
    (λ txn is. sym (same_txn session made (λ w. refl)) ∙ is)
    (rooms_same ((g.I.IndexStore.store l.store).rooms) l.sessions.items c.args.s session new c.self.invariant.roomy there refl refl)
    (omega (arith, owes_made session work has.work_is, c.add.ensures.room, room)) (omega (arith, owes_made session work has.work_is, fits))
    (omega (arith, c.self.invariant.counted))) (rooms_with_table c.args.schema _ _ table))

pub returns-clause-ok : goal.returns-clause-ok
returns-clause-ok g c =
    let l = c.self.inside in
    let session : Session = c.requires.may.0 in
    let work : Work = c.requires.may.1 in
    let has : HasWork c.args.s session work (world_of (g.I.IndexStore.store c.args.self.now.store) c.args.self.now) = c.requires.may.2 in
    let there : slice_get l.sessions.items c.args.s ≡ Some session = there_of c.args.s session c.self.view_is has.session_is in
    let here : c.index_mut.result.now ≡ session = read_of c.args.s session c.index_mut.result.now c.self.view_is has.session_is c.index_mut.ensures.value in
    let room : owed_by_all l.sessions.items + length l.locks.waiting + 2 ≤ c.take_room.new.history.room = rw (c.deref.ensures.value, c.requests.ensures) at c.in-Ok.ensures.ok in
    let fits : owed_by_all l.sessions.items + length l.locks.waiting + 2 < 2 ^ 64 = rw (c.deref.ensures.value, c.requests.ensures) at c.in-Ok.ensures.fits in
    let table : MakesTable c.args.schema (g.I.IndexStore.store l.store) (g.I.IndexStore.store c.make_table.new.self) = c.in-Ok-make_table.ensures.ok in
    let mine : HasWork c.args.s session work (world_of (g.I.IndexStore.store l.store) (record { names = l.history.names; past = l.history.past; rows = l.rows; store = l.store; txns = l.txns; sessions = l.sessions.items; locks = l.locks; fallen = l.fallen.items })) =
    record { session_is = there; work_is = has.work_is } in
    rw (
      ← c.self.view_is,
      c.made_table.ensures,
      here,
      has.work_is,
      c.add.ensures.past,
      c.add.ensures.names,
      c.in-Ok.ensures.same.past,
      c.in-Ok.ensures.same.names,
    )
    (makes_table (record { names = l.history.names; past = l.history.past; rows = l.rows; store = l.store; txns = l.txns; sessions = l.sessions.items; locks = l.locks; fallen = l.fallen.items })
    c.make_table.new.self c.args.s session work c.args.schema (g.I.IndexStore.store l.store) (g.I.IndexStore.store c.make_table.new.self) mine c.requires.keys table)
