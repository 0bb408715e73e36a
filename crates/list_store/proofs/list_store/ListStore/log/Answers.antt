use Rattle.std.proofs.Common.{◌≡◌, ◌<◌, ◌==◌, length, Some, refl, ap, arith}
use Rattle.std.specs.Prelude.{slice_get, slice_set}
use Rattle.std.proofs.lemmas.Option.{slice_get_read}
use Rattle.index_store.specs.declared.room.Room.{Room}
use Rattle.index_store.specs.Indexes.{MayLog}
use Rattle.list_store.specs.Kept.{KeepsOnly}
use Rattle.list_store.specs.Parts.{ListParts, store_of, room_in}
use Rattle.list_store.proofs.Indexed.{keeps}
use Rattle.list_store.proofs.Rooms.{asked, room_here, set_here, set_elsewhere, promised_filled}
use Rattle.list_store.proofs.list_store.ListStore.log.Goals as goal

pub invariant_of-self : goal.invariant_of-self
invariant_of-self c =
    let l = c.self.inside in
    let may : MayLog c.args.s c.args.undo.now (store_of c.args.self.now) = c.requires.may in
    let roomy : 0 < (room_in l.rooms.items c.args.s).bytes = omega (arith, may.room, ap (λ (p : ListParts). (room_in p.rooms c.args.s).bytes) c.self.view_is) in
    let within = asked l.rooms.items c.args.s roomy in
    let there : slice_get l.rooms.items c.args.s ≡ Some c.index_mut-room.result.now =
    slice_get_read l.rooms.items (length l.rooms.items) c.args.s c.index_mut-room.result.now refl within c.index_mut-room.ensures.value in
    let here : room_in l.rooms.items c.args.s ≡ c.index_mut-room.result.now = room_here l.rooms.items c.args.s c.index_mut-room.result.now there in
    let pointer : c.index_mut-room.result.now.pointer ≡ (room_in l.rooms.items c.args.s).pointer = rw here refl in
    let spent : Room = record { bytes = 0; pointer = (room_in l.rooms.items c.args.s).pointer } in
    record {
      numbered = c.self.invariant.numbered;
      promised = rw (c.fill_if.ensures, pointer) (promised_filled l.slots (room_in l.rooms.items) (room_in (slice_set l.rooms.items c.args.s spent)) c.args.s c.args.kept
          c.self.invariant.promised roomy (ap (λ (r : Room). r.bytes) (set_here l.rooms.items c.args.s spent within)) (set_elsewhere l.rooms.items c.args.s spent));
    }

pub returns-clause-logged : goal.returns-clause-logged
returns-clause-logged c =
    let l = c.self.inside in
    let may : MayLog c.args.s c.args.undo.now (store_of c.args.self.now) = c.requires.may in
    let roomy : 0 < (room_in l.rooms.items c.args.s).bytes = omega (arith, may.room, ap (λ (p : ListParts). (room_in p.rooms c.args.s).bytes) c.self.view_is) in
    let within = asked l.rooms.items c.args.s roomy in
    let there : slice_get l.rooms.items c.args.s ≡ Some c.index_mut-room.result.now =
    slice_get_read l.rooms.items (length l.rooms.items) c.args.s c.index_mut-room.result.now refl within c.index_mut-room.ensures.value in
    let here : room_in l.rooms.items c.args.s ≡ c.index_mut-room.result.now = room_here l.rooms.items c.args.s c.index_mut-room.result.now there in
    let pointer : c.index_mut-room.result.now.pointer ≡ (room_in l.rooms.items c.args.s).pointer = rw here refl in
    let slot = c.self.invariant.promised.slot c.args.s roomy in
    let schemas : l.schemas ≡ c.args.self.now.schemas = ap (λ (p : ListParts). p.schemas) c.self.view_is in
    let kept : KeepsOnly (c.args.undo.now.kind == 2) l.schemas c.args.undo.now c.args.kept = rw schemas c.requires.kept in
    rw (← c.self.view_is) (record {
      schemas = refl;
      kept = rw (c.fill_if.ensures, pointer)
          (keeps (c.args.undo.now.kind == 2) l.schemas (room_in l.rooms.items c.args.s).pointer c.args.undo.now c.args.kept l.slots kept slot.0 slot.1 slot.2);
      others = set_elsewhere l.rooms.items c.args.s (record { bytes = 0; pointer = c.index_mut-room.result.now.pointer });
      later = tt;
    })
