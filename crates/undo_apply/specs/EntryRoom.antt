-- What contracts see of a room for entries, and what room it has.
use Rattle.std.specs.Prelude.{ℕ, ◌≤◌, ◌<◌, List, [], slice_index_or, vec_capacity}
use Rattle.undo_apply.specs.{Lengths.AreOfEachLength, declared.entry_room.EntryRoom.TheInside.Inside}

-- the entry that was written last
abbrev pub last_written : Inside → List ℕ
last_written room = slice_index_or room.lists.items room.last []

-- an entry of 67 bytes has room
pub record HasRoom (room : Inside) : Type 0 where
  pub entry : 67 ≤ vec_capacity room.entry
  pub other : 67 ≤ vec_capacity room.other
  pub lists : AreOfEachLength 68 room.lists.items
  pub last : room.last < 68
