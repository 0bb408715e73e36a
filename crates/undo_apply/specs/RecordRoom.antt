-- What lists a room for undo records has.
use Rattle.undo_apply.specs.{Lengths.AreOfEachLength, declared.record_room.RecordRoom.TheInside.Inside}

-- a key of 67 bytes and a value of 1,024 have a list
pub record HasLists (room : Inside) : Type 0 where
  pub keys : AreOfEachLength 68 room.keys.items
  pub values : AreOfEachLength 1025 room.values.items
