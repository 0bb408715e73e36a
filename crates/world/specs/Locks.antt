-- What the calls of locks answer, and what they change of a world: locks, requests, and what the history tells of them.
use Rattle.std.specs.Prelude.{◌≡◌, ℕ, ◌+◌, ◌==◌, Bool, false, List, [], ◌∷◌, ◌++◌}
use Rattle.std.specs.List.{list_any}
use Rattle.inno_types.specs.declared.lock.Edge.{Edge}
use Rattle.inno_types.specs.declared.lock.Lock.{Lock}
use Rattle.inno_types.specs.declared.lock.Spot.{Spot}
use Rattle.inno_model.specs.declared.event.Event.TheVariants.{Waits as tells_wait, Victim}
use Rattle.lock_rules.specs.Rules.{FitsItsRule}
use Rattle.lock_table.specs.Keys.{IsShort}
use Rattle.lock_table.specs.Queue.{is_waiting}
use Rattle.lock_table.specs.Records.{own_gaps}
use Rattle.lock_table.specs.View.{HasPlaces, IsAskedFor, IsGranted, IsQueued, IsRefused, must_wait, without_request}
use Rattle.world.specs.declared.lock_world.LockAnswer.{LockAnswer}
use Rattle.world.specs.declared.lock_world.LockAnswer.TheVariants.{Granted, Waits, NoMemory}
use Rattle.world.specs.State.{WorldState, Session, Work, HasWork, with_entry}

-- The lock is one of the session's open transaction, which waits for none. It has the form of its rule, and a key of at most 67 bytes.
pub record MayAsk (s : ℕ) (lock : Lock) (state : WorldState) : Type 0 where
  pub session : Session
  pub work : Work
  pub has_work : HasWork s session work state
  pub mine : lock.txn ≡ work.txn
  pub free : is_waiting work.txn state.locks.waiting ≡ false
  pub fits : FitsItsRule lock
  pub asked_for : IsAskedFor lock.reason.rule
  pub short : IsShort lock.spot.key

-- nothing but locks has changed
abbrev pub ChangesLocks : WorldState → WorldState → Type 0
ChangesLocks old new = new ≡ record old { locks = new.locks }

-- A request that waits is told by the history in the same call, with all that it waits for.
pub record IsWaiting (s : ℕ) (lock : Lock) (at : ℕ) (old new : WorldState) : Type 0 where
  pub edges : List Edge
  pub queued : IsQueued old.locks new.locks lock edges
  pub rest : new ≡ record (with_entry (tells_wait s lock edges at) old) { locks = new.locks }

abbrev pub Asks : ℕ → Lock → ℕ → WorldState → WorldState → LockAnswer → Type 0
Asks s lock at old new Granted = IsGranted old.locks new.locks lock × ChangesLocks old new
Asks s lock at old new Waits = IsWaiting s lock at old new
Asks s lock at old new NoMemory = IsRefused old.locks new.locks lock × ChangesLocks old new

-- The record of the lock's spot has been inserted before the next one by the lock's transaction. A request for the lock would not wait, and there is memory
-- for it and for the copies of own locks of the gap.
pub record MayHoldNew (lock : Lock) (next : Spot) (state : WorldState) : Type 0 where
  pub fits : FitsItsRule lock
  pub asked_for : IsAskedFor lock.reason.rule
  pub short : IsShort lock.spot.key
  pub free : must_wait state.locks lock ≡ false
  pub room : HasPlaces (own_gaps lock.txn next state.locks.granted + 1) state.locks

-- the transaction was chosen as a victim, and has not ended
abbrev pub has_fallen : ℕ → WorldState → Bool
has_fallen txn state = list_any (λ other. other == txn) state.fallen

-- The session's transaction is the victim of this cycle, as the history tells. Its request is taken back, and requests of others are granted in order.
abbrev pub fell : ℕ → ℕ → List Edge → WorldState → WorldState
fell s txn cycle state =
    record (with_entry (Victim s cycle) state) { locks = without_request txn state.locks; fallen = state.fallen ++ txn ∷ [] }
