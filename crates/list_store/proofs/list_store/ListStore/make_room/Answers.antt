use Rattle.std.proofs.Common.{◌+◌, ◌<◌, ℕ, length, refl, ap, ◌∙◌, arith}
use Rattle.std.specs.Prelude.{slice_set}
use Rattle.index_store.specs.declared.room.Room.{Room}
use Rattle.list_store.specs.Parts.{room_in, ArePromised}
use Rattle.list_store.proofs.Filled.{kept_taken}
use Rattle.list_store.proofs.Rooms.{set_here, set_elsewhere, promised_taken}
use Rattle.list_store.proofs.list_store.ListStore.make_room.Goals as goal

pub invariant_of-self-2 : goal.invariant_of-self-2
invariant_of-self-2 c =
    let l = c.self.inside in
    let long : c.args.s + 1 < length c.grow.new.rooms.items + 1 = omega (arith, c.in_ok-grow.ensures.long) in
    let room : Room = record { bytes = c.args.bytes; pointer = c.in_ok-pointer.pointer } in
    let promised : ArePromised l.slots (room_in c.grow.new.rooms.items) = rw c.in_ok-grow.ensures.same c.self.invariant.promised in
    record {
      numbered = c.self.invariant.numbered;
      promised = rw c.in_ok-pointer.ensures.ok (promised_taken l.slots (room_in c.grow.new.rooms.items) (room_in (slice_set c.grow.new.rooms.items c.args.s room)) c.args.s promised
          (ap (λ (r : Room). r.pointer) (set_here c.grow.new.rooms.items c.args.s room (omega (arith, long))) ∙ c.in_ok-pointer.ensures.pointer)
          (set_elsewhere c.grow.new.rooms.items c.args.s room));
    }

pub returns-clause-ready : goal.returns-clause-ready
returns-clause-ready c =
    let l = c.self.inside in
    let long : c.args.s + 1 < length c.grow.new.rooms.items + 1 = omega (arith, c.in_ok-grow.ensures.long) in
    let room : Room = record { bytes = c.args.bytes; pointer = c.in_ok-pointer.pointer } in
    let here = set_here c.grow.new.rooms.items c.args.s room (omega (arith, long)) in
    rw (← c.self.view_is) (record {
      bytes_are = ap (λ (r : Room). r.bytes) here;
      leads = λ none. omega (arith, ap (λ (r : Room). r.pointer) here, c.in_ok-pointer.ensures.pointer, none);
      rest = record {
        schemas = refl;
        indexes = refl;
        versions = rw (c.in_ok-pointer.ensures.ok, kept_taken l.slots) refl;
        others = λ other another.
            set_elsewhere c.grow.new.rooms.items c.args.s room other another ∙ ap (λ (rooms : ℕ → Room). rooms other) c.in_ok-grow.ensures.same;
        later = tt;
      };
    })
