use Rattle.std.proofs.Common.{ℕ, take}
use Rattle.std.specs.List.{AllByRecursion}
use Rattle.lock_table.specs.Room.{HasRoom}
use Rattle.lock_table.proofs.room.prepare_all.Given as goal

abbrev pub invariant-loop-room : goal.invariant-loop-room
invariant-loop-room l = record {
  done : AllByRecursion (HasRoom l.edges) (take l.room-index l.room-items);
  stays : (n : ℕ) → AllByRecursion (HasRoom n) l.initial.room-items → AllByRecursion (HasRoom n) l.room-items;
}
