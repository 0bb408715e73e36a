-- The memory for cycles.
use Rattle.std.specs.Prelude.{ℕ, ◌≤◌, List, length}
use Rattle.std.specs.List.{AllByRecursion}
use Rattle.lock_table.specs.declared.room.CycleRoom.{CycleRoom}
use Rattle.lock_table.specs.declared.room.EdgeRoom.{EdgeRoom}
use Rattle.lock_table.specs.Empty.{IsEmptyFor, HoldKeys}

-- memory for a list of so many edges
pub record HasEdges (edges : ℕ) (room : EdgeRoom) : Type 0 where
  pub list : IsEmptyFor edges room.edges
  pub keys : edges ≤ length room.keys.items
  pub keys_hold : HoldKeys room.keys.items

-- memory for a cycle of so many edges, for two copies of it, and for the search that finds it
pub record HasRoom (edges : ℕ) (room : CycleRoom) : Type 0 where
  pub cycle : HasEdges edges room.cycle
  pub first_copy : HasEdges edges room.first_copy
  pub second_copy : HasEdges edges room.second_copy
  pub path : IsEmptyFor edges room.path
  pub visits : IsEmptyFor edges room.visits

-- memory for as many cycles as requests wait, each of as many edges
pub record HasRooms (waiting : ℕ) (rooms : List CycleRoom) : Type 0 where
  pub enough : waiting ≤ length rooms
  pub each : AllByRecursion (HasRoom waiting) rooms

-- there is as much memory as before
pub record KeepsRooms (old new : List CycleRoom) : Type 0 where
  pub stays : (n : ℕ) → HasRooms n old → HasRooms n new
