-- How a session's open transaction ends, and what the calls answer that end it. Each tells its end in the history.
use Rattle.std.specs.Prelude.{◌≡◌, ℕ, true, None}
use Rattle.inno_model.specs.declared.event.Event.TheVariants.{Committed, RolledBack}
use Rattle.store_api.specs.declared.moves.Move.{Move}
use Rattle.store_api.specs.declared.moves.Move.TheVariants.{Done}
use Rattle.sql_history.specs.Settings.{at_end}
use Rattle.lock_table.specs.View.{others, without_transaction}
use Rattle.txn_table.specs.Txns.{without}
use Rattle.world.specs.State.{WorldState, Session, Work, HasWork, with_session, with_entry}
use Rattle.world.specs.Stores.{StoreGoes}
use Rattle.world.specs.Undoing.{IsUnchanged, Delays}

-- The session's transaction is open no longer: its locks and its request go, and requests of others are granted in order.
abbrev pub ended : ℕ → Session → Work → WorldState → WorldState
ended s session work state =
    record (with_session s (record session { setting = at_end session.setting; work = None }) state) {
      txns = record state.txns { open_txns = without work.txn state.txns.open_txns };
      locks = without_transaction work.txn state.locks;
      fallen = others work.txn state.fallen;
    }

-- it is committed, which is to be acknowledged
abbrev pub committed : ℕ → Session → Work → WorldState → WorldState
committed s session work state = with_entry (Committed s) (ended s (record session { can_ack = true }) work state)

-- it is rolled back
abbrev pub rolled_back : ℕ → Session → Work → WorldState → WorldState
rolled_back s session work state = with_entry (RolledBack s) (ended s session work state)

pub record IsCommitted (s : ℕ) (old new : WorldState) : Type 0 where
  pub session : Session
  pub work : Work
  pub has_work : HasWork s session work old
  pub rest : new ≡ record (committed s session work old) { paged = new.paged }
  pub later : StoreGoes old.paged new.paged

pub record IsRolledBack (s : ℕ) (old new : WorldState) : Type 0 where
  pub session : Session
  pub work : Work
  pub has_work : HasWork s session work old
  pub rest : new ≡ record (rolled_back s session work old) { paged = new.paged }
  pub later : StoreGoes old.paged new.paged

-- the call has done this, or is put off
abbrev pub DoesOrDelays : (WorldState → WorldState → Type 0) → ℕ → WorldState → WorldState → Move → Type 0
DoesOrDelays does s old new Done = does old new
DoesOrDelays does s old new other = Delays s old new other

abbrev pub Commits : ℕ → WorldState → WorldState → Move → Type 0
Commits s old new answer = DoesOrDelays (IsCommitted s) s old new answer

abbrev pub RollsBack : ℕ → WorldState → WorldState → Move → Type 0
RollsBack s old new answer = DoesOrDelays (IsRolledBack s) s old new answer

-- What is kept of a log that nobody needs is given back. Of that nothing is seen but pages.
abbrev pub FreesLog : ℕ → WorldState → WorldState → Move → Type 0
FreesLog s old new answer = DoesOrDelays IsUnchanged s old new answer
