use Rattle.std.proofs.Common.{sym, subst, arith}
use Rattle.std.specs.List.{AllByRecursion}
use Rattle.lock_table.specs.Room.{HasRoom, KeepsRooms}
use Rattle.lock_table.proofs.Places.{all_push}
use Rattle.lock_table.proofs.Rooms.{keeps_trans, keeps_push}
use Rattle.lock_table.proofs.room.widen.Goals as goal

pub returns-in_err-prepare-clause-stays : goal.returns-in_err-prepare-clause-stays
returns-in_err-prepare-clause-stays c = keeps_trans _ _ _ c.prepare_all.ensures.stays c.loop-alloc.invariant.stays

pub loop-alloc-preserved : goal.loop-alloc-preserved
loop-alloc-preserved c = record {
  each = subst (AllByRecursion (HasRoom c.args.count)) (sym c.in_ok-push.ensures.items) (all_push _ _ _ c.loop-alloc.invariant.each c.in_ok-prepare.ensures.room);
  stays = subst (KeepsRooms _) (sym c.in_ok-push.ensures.items)
      (keeps_push c.args.count _ _ _ c.loop-alloc.invariant.stays (omega (arith, c.len.ensures, c.loop-alloc.rooms.ok.0)) c.in_ok-prepare.ensures.room);
}

pub returns-in_err-push-clause-stays : goal.returns-in_err-push-clause-stays
returns-in_err-push-clause-stays c = subst (KeepsRooms _) (sym c.in_err-push.ensures.items) (keeps_trans _ _ _ c.prepare_all.ensures.stays c.loop-alloc.invariant.stays)

pub returns-clause-stays : goal.returns-clause-stays
returns-clause-stays c = keeps_trans _ _ _ c.prepare_all.ensures.stays c.loop-alloc.invariant.stays
