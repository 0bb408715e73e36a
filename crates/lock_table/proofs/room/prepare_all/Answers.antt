use Rattle.std.proofs.Common.{sym, ap, subst, ◌∙◌, length, arith}
use Rattle.std.proofs.Math.ListN.{set, length-set}
use Rattle.std.specs.List.{AllByRecursion}
use Rattle.lock_table.specs.Room.{HasRoom}
use Rattle.lock_table.proofs.Places.{all_front_set, all_whole}
use Rattle.lock_table.proofs.Rooms.{all_get, all_set, keeps_whole}
use Rattle.lock_table.proofs.room.prepare_all.Goals as goal

pub loop-room-preserved : goal.loop-room-preserved
loop-room-preserved c = record {
  done = all_front_set (HasRoom c.args.edges) c.loop-room.room-items c.loop-room.room-index _ (omega arith) c.loop-room.invariant.done c.in_ok-prepare.ensures.room;
  stays = λ n all.
      let now = c.loop-room.invariant.stays n all in
      all_set (HasRoom n) c.loop-room.room-items c.loop-room.room-index _ now (c.prepare.ensures.stays n (all_get (HasRoom n) c.loop-room.room-items c.loop-room.room-index _ (omega arith) now));
}

pub returns-in_err-prepare-clause-stays : goal.returns-in_err-prepare-clause-stays
returns-in_err-prepare-clause-stays c =
    let long = length-set c.loop-room.room-items c.loop-room.room-index c.prepare.new.self in
    keeps_whole c.args.rooms.now.items (set c.loop-room.room-items c.loop-room.room-index c.prepare.new.self) _ _ (sym (long ∙ (c.loop-room.auto.room-items ∙ c.deref_mut-room-items.ensures.len)))
    (long ∙ (c.loop-room.auto.room-items ∙ ap length c.deref_mut-room-items.ensures.value))
    (λ n all.
    let now = c.loop-room.invariant.stays n (subst (AllByRecursion (HasRoom n)) (sym c.deref_mut-room-items.ensures.value) all) in
    all_set (HasRoom n) c.loop-room.room-items c.loop-room.room-index _ now (c.prepare.ensures.stays n (all_get (HasRoom n) c.loop-room.room-items c.loop-room.room-index _ (omega arith) now)))

pub returns-clause-stays : goal.returns-clause-stays
returns-clause-stays c =
    keeps_whole c.args.rooms.now.items c.loop-room.room-items _ _ (sym (c.loop-room.auto.room-items ∙ c.deref_mut-room-items.ensures.len))
    (c.loop-room.auto.room-items ∙ ap length c.deref_mut-room-items.ensures.value)
    (λ n all. c.loop-room.invariant.stays n (subst (AllByRecursion (HasRoom n)) (sym c.deref_mut-room-items.ensures.value) all))

pub returns-clause-room : goal.returns-clause-room
returns-clause-room c = all_whole (HasRoom c.args.edges) c.loop-room.room-items _ _ c.loop-room.room-index (sym (c.loop-room.auto.room-items ∙ c.deref_mut-room-items.ensures.len)) (omega arith) c.loop-room.invariant.done
