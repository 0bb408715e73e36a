use Rattle.std.proofs.Common.{◌≡◌, ◌<◌, length, Some, refl, ap, ◌∙◌, arith}
use Rattle.std.specs.Prelude.{slice_get, slice_set}
use Rattle.std.proofs.lemmas.Option.{slice_get_read}
use Rattle.world.specs.State.{Session}
use Rattle.index_store.specs.declared.room.Room.{Room}
use Rattle.index_store.specs.State.{StoreState}
use Rattle.index_store.specs.Undoing.{IsReady}
use Rattle.index_store.proofs.Places.{get_set_here, element, set_same}
use Rattle.parts_world.specs.Parts.{Parts, queue_of}
use Rattle.parts_world.proofs.Lifting.{room_refused, rooms_refused, restored}
use Rattle.parts_world.proofs.Sound.{sound_quiet, sound_rooms, rooms_set, set_twice}
use Rattle.parts_world.proofs.parts_world.PartsWorld.make_room.Goals as goal

pub invariant_of-self-in-Done : goal.invariant_of-self-in-Done
invariant_of-self-in-Done g c =
    let l = c.self.inside in
    let session : Session = c.index_mut.result.now in
    let within : c.args.actor < length l.sessions.items = omega (arith, c.requires.joined, ap (λ (p : Parts _). length p.sessions) c.self.view_is) in
    let there : slice_get l.sessions.items c.args.actor ≡ Some session =
    slice_get_read l.sessions.items (length l.sessions.items) c.args.actor session refl within c.index_mut.ensures.value in
    let made : c.make_room.new.self ≡ record session { undo_room = 1 } = c.in-Ok.ensures.ok in
    let read : c.index_mut-in-Done.result.now ≡ record session { undo_room = 1 } =
    element (slice_set l.sessions.items c.args.actor c.make_room.new.self) c.args.actor c.make_room.new.self c.index_mut-in-Done.result.now
    (get_set_here l.sessions.items c.args.actor c.make_room.new.self within) c.index_mut-in-Done.ensures.value ∙ made in
    let old : StoreState = g.I.IndexStore.store l.store in
    let new : StoreState = g.I.IndexStore.store c.undo_room-answer.new.self in
    let ready : IsReady c.args.actor c.args.bytes old new = c.in-Done.ensures in
    let next : Session = record session { undo_room = (new.rooms c.args.actor).bytes; next_pointer = (new.rooms c.args.actor).pointer } in
    let is : c.promise.new.self ≡ next = c.promise.ensures
    ∙ ap (λ (x : Session). record x { undo_room = c.room.result.bytes; next_pointer = c.room.result.pointer }) read
    ∙ ap (λ (r : Room). record session { undo_room = r.bytes; next_pointer = r.pointer }) c.room.ensures in
    rw (set_twice l.sessions.items c.args.actor c.make_room.new.self c.promise.new.self, is) (sound_quiet l.history.room l.rows old.rooms l.txns.begun
    (queue_of l.locks.waiting l.fallen) l.sessions.items c.args.actor session next new.rooms c.self.invariant there (λ txn is. is)
    (rooms_set old.rooms new.rooms l.sessions.items c.args.actor session next c.self.invariant.roomy there (λ roomy. (refl, refl)) ready.rest.others)
    (omega arith) refl)

pub returns-in-Done : goal.returns-in-Done
returns-in-Done g c =
    let l = c.self.inside in
    let session : Session = c.index_mut.result.now in
    let within : c.args.actor < length l.sessions.items = omega (arith, c.requires.joined, ap (λ (p : Parts _). length p.sessions) c.self.view_is) in
    let there : slice_get l.sessions.items c.args.actor ≡ Some session =
    slice_get_read l.sessions.items (length l.sessions.items) c.args.actor session refl within c.index_mut.ensures.value in
    let made : c.make_room.new.self ≡ record session { undo_room = 1 } = c.in-Ok.ensures.ok in
    let read : c.index_mut-in-Done.result.now ≡ record session { undo_room = 1 } =
    element (slice_set l.sessions.items c.args.actor c.make_room.new.self) c.args.actor c.make_room.new.self c.index_mut-in-Done.result.now
    (get_set_here l.sessions.items c.args.actor c.make_room.new.self within) c.index_mut-in-Done.ensures.value ∙ made in
    let old : StoreState = g.I.IndexStore.store l.store in
    let new : StoreState = g.I.IndexStore.store c.undo_room-answer.new.self in
    let ready : IsReady c.args.actor c.args.bytes old new = c.in-Done.ensures in
    let next : Session = record session { undo_room = (new.rooms c.args.actor).bytes; next_pointer = (new.rooms c.args.actor).pointer } in
    let is : c.promise.new.self ≡ next = c.promise.ensures
    ∙ ap (λ (x : Session). record x { undo_room = c.room.result.bytes; next_pointer = c.room.result.pointer }) read
    ∙ ap (λ (r : Room). record session { undo_room = r.bytes; next_pointer = r.pointer }) c.room.ensures in
    rw (c.in-Done.is, ← c.self.view_is, set_twice l.sessions.items c.args.actor c.make_room.new.self c.promise.new.self, is) (record {
      session = session;
      session_is = there;
      pointer = (new.rooms c.args.actor).pointer;
      leads = ready.leads;
      rest = rw (ready.bytes_are, ready.rest.schemas, ready.rest.indexes, ready.rest.versions) refl;
      later = ready.rest.later;
    })

pub invariant_of-self-in_default-answer : goal.invariant_of-self-in_default-answer
invariant_of-self-in_default-answer g c =
    let l = c.self.inside in
    let session : Session = c.index_mut.result.now in
    let within : c.args.actor < length l.sessions.items = omega (arith, c.requires.joined, ap (λ (p : Parts _). length p.sessions) c.self.view_is) in
    let there : slice_get l.sessions.items c.args.actor ≡ Some session =
    slice_get_read l.sessions.items (length l.sessions.items) c.args.actor session refl within c.index_mut.ensures.value in
    let made : c.make_room.new.self ≡ record session { undo_room = 1 } = c.in-Ok.ensures.ok in
    let read : c.index_mut-in_default-answer.result.now ≡ record session { undo_room = 1 } =
    element (slice_set l.sessions.items c.args.actor c.make_room.new.self) c.args.actor c.make_room.new.self c.index_mut-in_default-answer.result.now
    (get_set_here l.sessions.items c.args.actor c.make_room.new.self within) c.index_mut-in_default-answer.ensures.value ∙ made in
    let is : c.promise-in_default-answer.new.self ≡ session = c.promise-in_default-answer.ensures
    ∙ ap (λ (x : Session). record x { undo_room = c.in-Ok.before.bytes; next_pointer = c.in-Ok.before.pointer }) read
    ∙ restored c.in-Ok.before session c.in-Ok.ensures.before.0 c.in-Ok.ensures.before.1 in
    rw (
      set_twice l.sessions.items c.args.actor c.make_room.new.self c.promise-in_default-answer.new.self,
      is,
      set_same l.sessions.items c.args.actor session c.index_mut.ensures.value,
    )
    (sound_rooms _ _ _ _ _ _ _ c.self.invariant
    (rooms_refused c.args.actor c.args.bytes _ _ c.undo_room-answer.result c.in_default-answer.not-Done c.undo_room-answer.ensures))

pub returns-in_default-answer : goal.returns-in_default-answer
returns-in_default-answer g c =
    let l = c.self.inside in
    let session : Session = c.index_mut.result.now in
    let within : c.args.actor < length l.sessions.items = omega (arith, c.requires.joined, ap (λ (p : Parts _). length p.sessions) c.self.view_is) in
    let there : slice_get l.sessions.items c.args.actor ≡ Some session =
    slice_get_read l.sessions.items (length l.sessions.items) c.args.actor session refl within c.index_mut.ensures.value in
    let made : c.make_room.new.self ≡ record session { undo_room = 1 } = c.in-Ok.ensures.ok in
    let read : c.index_mut-in_default-answer.result.now ≡ record session { undo_room = 1 } =
    element (slice_set l.sessions.items c.args.actor c.make_room.new.self) c.args.actor c.make_room.new.self c.index_mut-in_default-answer.result.now
    (get_set_here l.sessions.items c.args.actor c.make_room.new.self within) c.index_mut-in_default-answer.ensures.value ∙ made in
    let is : c.promise-in_default-answer.new.self ≡ session = c.promise-in_default-answer.ensures
    ∙ ap (λ (x : Session). record x { undo_room = c.in-Ok.before.bytes; next_pointer = c.in-Ok.before.pointer }) read
    ∙ restored c.in-Ok.before session c.in-Ok.ensures.before.0 c.in-Ok.ensures.before.1 in
    rw (
      ← c.self.view_is,
      set_twice l.sessions.items c.args.actor c.make_room.new.self c.promise-in_default-answer.new.self,
      is,
      set_same l.sessions.items c.args.actor session c.index_mut.ensures.value,
    )
    (room_refused (record { names = l.history.names; past = l.history.past; rows = l.rows; store = l.store; txns = l.txns; sessions = l.sessions.items; locks = l.locks; fallen = l.fallen.items })
    c.undo_room-answer.new.self c.args.actor c.args.bytes _ _ c.undo_room-answer.result c.in_default-answer.not-Done c.undo_room-answer.ensures)
