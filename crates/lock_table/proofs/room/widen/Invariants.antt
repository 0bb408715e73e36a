use Rattle.std.proofs.Common.{◌-◌, length}
use Rattle.std.specs.List.{AllByRecursion}
use Rattle.lock_table.specs.Room.{HasRoom, KeepsRooms}
use Rattle.lock_table.proofs.room.widen.Given as goal

abbrev pub invariant-loop-alloc : goal.invariant-loop-alloc
invariant-loop-alloc l = record {
  each : AllByRecursion (HasRoom l.count) l.rooms.items;
  stays : KeepsRooms l.initial.rooms.items l.rooms.items;
}

abbrev pub decreases-loop-alloc : goal.decreases-loop-alloc
decreases-loop-alloc l = l.count - length l.rooms.items
