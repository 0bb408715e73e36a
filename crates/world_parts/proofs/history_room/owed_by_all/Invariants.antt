use Rattle.std.proofs.Common.{◌≡◌, ◌<◌, ◌^◌, take}
use Rattle.world_parts.specs.Owed.{owed_by_all}
use Rattle.world_parts.proofs.history_room.owed_by_all.Given as goal

abbrev pub invariant-loop-room : goal.invariant-loop-room
invariant-loop-room l = (l.total ≡ owed_by_all (take l.room-index l.sessions)) × (l.total < 2 ^ 64)
