-- What ends the cycles of waits of a world: transactions fall, one after the other.
use Rattle.std.specs.Prelude.{◌≡◌, ℕ, Option, List, [], ◌∷◌, ◌++◌, length, map}
use Rattle.std.specs.List.{AllByRecursion}
use Rattle.inno_types.specs.declared.lock.Lock.{Lock}
use Rattle.deadlock.specs.Cycles.{IsCycle, AreCopies}
use Rattle.deadlock.specs.Victim.{IsVictim}
use Rattle.deadlock.specs.declared.cycle.Cycle.{Cycle}
use Rattle.deadlock.specs.declared.rollback.Size.{Size}
use Rattle.lock_table.specs.Queue.{Lists, AreSound}
use Rattle.lock_table.specs.Room.{HasRooms}
use Rattle.lock_table.specs.declared.room.CycleRoom.{CycleRoom}
use Rattle.law_locks.specs.Settling.{Round, AreSettled}
use Rattle.world.specs.State.{WorldState, Session, Work, HasWork}
use Rattle.world.specs.Locks.{fell}
use Rattle.waits.specs.declared.settling.Fallen.{Fallen}

-- the session's open transaction has this number
pub record IsOpenAt (state : WorldState) (s txn : ℕ) : Type 0 where
  pub session : Session
  pub work : Work
  pub has_work : HasWork s session work state
  pub mine : work.txn ≡ txn

-- some session's open transaction has this number
pub record IsOwned (state : WorldState) (txn : ℕ) : Type 0 where
  pub session : ℕ
  pub open_at : IsOpenAt state session txn

abbrev pub lists_of : WorldState → Lists
lists_of state = record { granted = state.locks.granted; waiting = state.locks.waiting }

-- There is a room for each request's cycle, and each request is one of an open transaction.
pub record MaySettle (sessions : ℕ) (state : WorldState) : Type 0 where
  pub sessions_are : sessions ≡ length state.sessions
  pub sound : AreSound state.locks.granted state.locks.waiting
  pub owned : AllByRecursion (λ (asked : Lock). IsOwned state asked.txn) state.locks.waiting
  pub rooms : HasRooms (length state.locks.waiting) state.locks.rooms

-- the cycle stands, with its copies, and each request is one of an open transaction
pub record MayFall (sessions : ℕ) (cycle : Cycle) (state : WorldState) : Type 0 where
  pub sessions_are : sessions ≡ length state.sessions
  pub owned : AllByRecursion (λ (asked : Lock). IsOwned state asked.txn) state.locks.waiting
  pub stands : IsCycle state.locks.granted state.locks.waiting cycle.edges
  pub copies : AreCopies cycle

-- what it shows is what it tells
abbrev pub AreCopied : Fallen → Type 0
AreCopied fall = fall.shown ≡ fall.told

-- The cycle's victim has fallen, and is told behind those before it: its request is taken back, and the history tells the cycle.
pub record HasFallen (sizes : List Size) (asked : Option ℕ) (cycle : Cycle) (before after : List Fallen) (old new : WorldState) : Type 0 where
  pub fall : Fallen
  pub items : after ≡ before ++ fall ∷ []
  pub chosen : IsVictim cycle.edges sizes asked fall.txn
  pub open_at : IsOpenAt old fall.session fall.txn
  pub told : fall.told ≡ cycle.edges
  pub shown : fall.shown ≡ cycle.edges
  pub rest : new ≡ fell fall.session fall.txn fall.told old

-- one after the other has fallen
abbrev pub after_falls : WorldState → List Fallen → WorldState
after_falls state [] = state
after_falls state (fall ∷ falls) = after_falls (fell fall.session fall.txn fall.told state) falls

abbrev pub round_of : Fallen → Round
round_of fall = record { cycle = fall.told; victim = fall.txn }

abbrev pub with_rooms : List CycleRoom → WorldState → WorldState
with_rooms rooms state = record state { locks = record state.locks { rooms = rooms } }

-- These have fallen, in rounds that have come to their end: no cycle goes through any of the transactions. Nothing else has changed, and each request that is
-- left has its room.
pub record Settles (grown : List ℕ) (sizes : List Size) (asked : Option ℕ) (falls : List Fallen) (old new : WorldState) : Type 0 where
  pub rest : new ≡ with_rooms new.locks.rooms (after_falls old falls)
  pub rooms : HasRooms (length new.locks.waiting) new.locks.rooms
  pub settled : AreSettled grown sizes asked (lists_of old) (map round_of falls)

-- more have fallen, behind those before them, and no cycle goes through this transaction any more
pub record HasSettled (txn : ℕ) (sizes : List Size) (asked : Option ℕ) (before after : List Fallen) (old new : WorldState) : Type 0 where
  pub falls : List Fallen
  pub items : after ≡ before ++ falls
  pub settles : Settles (txn ∷ []) sizes asked falls old new
  pub copied : AllByRecursion AreCopied falls
