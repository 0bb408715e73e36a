-- What a world over a store is made of, and the world that statements see of it.
use Rattle.std.specs.Prelude.{◌≡◌, ℕ, ◌+◌, ◌<◌, ◌≤◌, ◌^◌, List, length, slice_get, vec_capacity, Some}
use Rattle.std.specs.declared.vec.Vec.{Vec}
use Rattle.std.specs.declared.alloc.Global.{Global}
use Rattle.inno_types.specs.declared.lock.Lock.{Lock}
use Rattle.inno_model.specs.declared.event.Event.{Event}
use Rattle.lock_table.specs.View.{Table}
use Rattle.txn_table.specs.Txns.{Txns}
use Rattle.world.specs.State.{WorldState, Session}
use Rattle.index_store.specs.State.{StoreState}
use Rattle.index_store.specs.declared.room.Room.{Room}
use Rattle.world_parts.specs.Owed.{owed_by_all, puts_of_all}
use Rattle.world_parts.specs.Holding.{AreApart, HaveBegun}

pub record Parts (S : Type 0) : Type 0 where
  pub names : List (List ℕ)
  -- the newest entry first
  pub past : List Event
  pub rows : ℕ
  pub store : S
  pub txns : Txns
  pub sessions : List Session
  pub locks : Table
  pub fallen : List ℕ

-- the world over a store that shows this
abbrev pub world_of : {S : Type 0} → StoreState → Parts S → WorldState
world_of store parts = record {
  names = parts.names;
  past = parts.past;
  rows = parts.rows;
  schemas = store.schemas;
  indexes = store.indexes;
  versions = store.versions;
  txns = parts.txns;
  sessions = parts.sessions;
  locks = parts.locks;
  fallen = parts.fallen;
  paged = store.paged;
}

-- what a session knows of the room for its next undo record is what the store has for it
abbrev pub HasRoom : Room → Session → Type 0
HasRoom room session = 0 < session.undo_room → (room.bytes ≡ session.undo_room) × (room.pointer ≡ session.next_pointer)

abbrev pub HaveRooms : (ℕ → Room) → List Session → Type 0
HaveRooms rooms sessions = (s : ℕ) (session : Session) → slice_get sessions s ≡ Some session → HasRoom (rooms s) session

-- how many requests wait, how many victims have not ended, and for how many victims there is memory
pub record Queue : Type 0 where
  pub requests : ℕ
  pub fallen : ℕ
  pub places : ℕ

abbrev pub queue_of : List Lock → Vec ℕ Global → Queue
queue_of waiting fallen = record { requests = length waiting; fallen = length fallen.items; places = vec_capacity fallen }

-- What holds of a world at all times, with so much room in its history, so many rows, such rooms of undo records, so many
-- transactions begun, and such a queue.
pub record IsSound (room rows : ℕ) (rooms : ℕ → Room) (begun : ℕ) (queue : Queue) (sessions : List Session) : Type 0 where
  pub few : length sessions ≤ 68
  -- the history has room for all that is owed, and for each request to end as a victim
  pub enough : owed_by_all sessions + queue.requests ≤ room
  pub small : owed_by_all sessions + queue.requests < 2 ^ 64
  pub victims : queue.fallen + queue.requests ≤ queue.places
  pub counted : rows + puts_of_all sessions < 2 ^ 64
  pub apart : AreApart sessions
  pub are_begun : HaveBegun sessions begun
  pub roomy : HaveRooms rooms sessions
