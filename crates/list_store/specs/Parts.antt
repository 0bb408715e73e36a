-- What a store in memory is made of, and what contracts see of it.
use Rattle.std.specs.Prelude.{◌≡◌, ℕ, ◌+◌, ◌*◌, ◌<◌, ◌≤◌, List, length, slice_get, Option, None, Some}
use Rattle.inno_types.specs.declared.value.Schema.{Schema}
use Rattle.entries.specs.Index.{Index}
use Rattle.entries.specs.declared.list_index.ListIndex.{ListIndex}
use Rattle.entries.specs.Lists.{shown, empty_index}
use Rattle.row_versions.specs.declared.kept.Kept.{Kept}
use Rattle.index_store.specs.declared.room.Room.{Room}
use Rattle.index_store.specs.State.{StoreState}
use Rattle.list_store.specs.Slots.{slotted, kept_behind}

pub record ListParts : Type 0 where
  pub schemas : List Schema
  -- eight for each table, of which those past its keys stay empty
  pub indexes : List ListIndex
  pub slots : List (Option Kept)
  pub rooms : List Room

abbrev pub index_of_list : Option ListIndex → Index
index_of_list None = empty_index
index_of_list (Some list) = shown list

-- the index of a number; those that no table has are empty
abbrev pub index_in : List ListIndex → ℕ → Index
index_in indexes index = index_of_list (slice_get indexes index)

abbrev pub room_of : Option Room → Room
room_of None = record { bytes = 0; pointer = 0 }
room_of (Some room) = room

-- the room of a session; one that has never asked has none
abbrev pub room_in : List Room → ℕ → Room
room_in rooms s = room_of (slice_get rooms s)

abbrev pub store_of : ListParts → StoreState
store_of parts = record {
  schemas = parts.schemas;
  indexes = index_in parts.indexes;
  versions = slotted parts.slots;
  rooms = room_in parts.rooms;
  paged = None;
}

-- a pointer that was promised has an empty slot
abbrev pub HasSlot : List (Option Kept) → Room → Type 0
HasSlot slots room = 0 < room.bytes → (0 < room.pointer) × (room.pointer ≤ length slots) × (kept_behind slots room.pointer ≡ None)

-- the pointers that were promised
pub record ArePromised (slots : List (Option Kept)) (rooms : ℕ → Room) : Type 0 where
  pub slot : (s : ℕ) → HasSlot slots (rooms s)
  -- two sessions have two
  pub apart : (s t : ℕ) → 0 < (rooms s).bytes → 0 < (rooms t).bytes → (rooms s).pointer ≡ (rooms t).pointer → s ≡ t

-- what holds of a store at all times, with these tables, indexes, slots and rooms
pub record IsSound (schemas : List Schema) (indexes : List ListIndex) (slots : List (Option Kept)) (rooms : List Room) : Type 0 where
  pub numbered : length indexes ≡ 8 * length schemas
  pub promised : ArePromised slots (room_in rooms)

-- so many empty indexes more
pub record AreAdded (more : ℕ) (old new : List ListIndex) : Type 0 where
  pub count : length new ≡ length old + more
  pub before : (index : ℕ) → index < length old → slice_get new index ≡ slice_get old index
  pub empty : (index : ℕ) → length old ≤ index → index_in new index ≡ empty_index
