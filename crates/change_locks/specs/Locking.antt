-- The locks that changes ask for, and what a world has behind them.
use Rattle.std.specs.Prelude.{◌≡◌, ℕ, ◌+◌, false}
use Rattle.inno_types.specs.declared.lock.Lock.{Lock}
use Rattle.inno_types.specs.declared.lock.Mode.TheVariants.{X}
use Rattle.inno_types.specs.declared.lock.Spot.{Spot}
use Rattle.lock_rules.specs.declared.rule.Rule.{Rule}
use Rattle.lock_rules.specs.declared.rule.Rule.TheVariants.{ToInsert, DuplicateCheck, Changed}
use Rattle.lock_rules.specs.Rules.{number_of, rule_kind, rule_mode}
use Rattle.lock_table.specs.Queue.{is_waiting}
use Rattle.lock_table.specs.Records.{own_gaps}
use Rattle.lock_table.specs.View.{HasPlaces, IsGranted}
use Rattle.world.specs.State.{WorldState, Session, Work, HasWork}
use Rattle.world.specs.Locks.{ChangesLocks, IsWaiting}
use Rattle.world.specs.declared.lock_world.LockAnswer.{LockAnswer}
use Rattle.world.specs.declared.lock_world.LockAnswer.TheVariants.{Granted, Waits, NoMemory}
use Rattle.change_locks.specs.declared.locker.Locker.{Locker}

-- the lock that the rule gives at this spot
abbrev pub lock_by : Rule → Locker → Spot → Lock
lock_by rule locker spot = record {
  txn = locker.txn;
  spot = spot;
  kind = rule_kind rule;
  mode = rule_mode rule X;
  reason = record { rule = number_of rule; item = locker.item; level = locker.level };
}

-- its session's open transaction has that number, and waits for no lock
pub record MayLock (locker : Locker) (state : WorldState) : Type 0 where
  pub session : Session
  pub work : Work
  pub has_work : HasWork locker.session session work state
  pub mine : locker.txn ≡ work.txn
  pub free : is_waiting work.txn state.locks.waiting ≡ false

-- the rules of a change for a record that is there
abbrev pub IsOnRecord : Rule → Type 0
IsOnRecord DuplicateCheck = Unit {0}
IsOnRecord Changed = Unit {0}
IsOnRecord other = ⊥

-- no lock is granted, asked for or taken back
pub record KeepsLocks (old new : WorldState) : Type 0 where
  pub granted : new.locks.granted ≡ old.locks.granted
  pub waiting : new.locks.waiting ≡ old.locks.waiting
  pub withdrawn : new.locks.withdrawn ≡ old.locks.withdrawn
  pub rest : ChangesLocks old new

-- memory was taken for so many locks
abbrev pub with_places : ℕ → WorldState → WorldState
with_places places state = record state { locks = record state.locks { capacity = places } }

-- the intention is granted, and there is room for the locks of the new record
pub record HasWay (locker : Locker) (next : Spot) (old new : WorldState) : Type 0 where
  pub granted : IsGranted old.locks new.locks (lock_by ToInsert locker next)
  pub room : HasPlaces (own_gaps locker.txn next new.locks.granted + 1) new.locks
  pub rest : ChangesLocks old new

abbrev pub MakesWay : Locker → Spot → WorldState → WorldState → LockAnswer → Type 0
MakesWay locker next old new Granted = (places : ℕ) × HasWay locker next (with_places places old) new
MakesWay locker next old new Waits = (places : ℕ) × IsWaiting locker.session (lock_by ToInsert locker next) locker.at (with_places places old) new
MakesWay locker next old new NoMemory = KeepsLocks old new
