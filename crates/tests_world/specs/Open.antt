-- Sessions of a world whose transactions are open, and can end.
use Rattle.std.specs.Prelude.{◌≡◌, ℕ, true, length, slice_get, Some}
use Rattle.lock_table.specs.Queue.{is_waiting}
use Rattle.lock_table.specs.Room.{HasRooms}
use Rattle.world.specs.State.{WorldState, Session, Work, HasWork}
use Rattle.world.specs.EngineCalls.{fresh_session}

-- the session has joined, and done nothing
abbrev pub HasJoined : ℕ → WorldState → Type 0
HasJoined s state = slice_get state.sessions s ≡ Some fresh_session

-- the session's open transaction has this number
pub record IsOpen (s txn : ℕ) (state : WorldState) : Type 0 where
  pub session : Session
  pub work : Work
  pub has_work : HasWork s session work state
  pub txn_is : work.txn ≡ txn
  pub can_end : work.can_end ≡ true

-- the first two sessions have the transactions 1 and 2
pub record AreOpen (state : WorldState) : Type 0 where
  pub first : IsOpen 0 1 state
  pub second : IsOpen 1 2 state

-- the second transaction waits, and a search for a cycle has its room
pub record MayFall (state : WorldState) : Type 0 where
  pub waits : is_waiting 2 state.locks.waiting ≡ true
  pub rooms : HasRooms (length state.locks.waiting) state.locks.rooms
