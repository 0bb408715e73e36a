-- What the calls of transactions and of the history change of a world.
use Rattle.std.specs.Prelude.{◌≡◌, ℕ, ◌+◌, ◌-◌, ◌==◌, true, false, if◌then◌else◌, List, [], ◌∷◌, ◌++◌, map, Option, None, Some}
use Rattle.inno_types.specs.declared.lock.Level.{Level}
use Rattle.inno_db.specs.declared.change.Change.{Change}
use Rattle.inno_model.specs.declared.event.Event.TheVariants.{Begin, View, Changed, Undone}
use Rattle.sql_history.specs.Settings.{at_begin, saved, back_to}
use Rattle.txn_table.specs.Txns.{with_id as with_txn_id}
use Rattle.world.specs.State.{WorldState, Session, Work, Seen, with_session, with_work, with_entry}

-- a transaction that has done nothing
abbrev pub fresh_work : ℕ → Level → Work
fresh_work txn level = record { txn = txn; level = level; id = 0; own = 0; view = None; log = []; can_end = false }

-- the session has opened the next transaction
abbrev pub begun : ℕ → Level → Session → WorldState → WorldState
begun s level session state =
    record (with_session s (record session { setting = at_begin session.setting; work = Some (fresh_work (state.txns.begun + 1) level) }) state) {
      txns = record {
        open_txns = state.txns.open_txns ++ (state.txns.begun + 1, record { session = s; level = level; id = 0 }) ∷ [];
        begun =
            state.txns.begun + 1;
        next = state.txns.next;
      };
    }

-- the session whose open transaction has this number is changed so
abbrev pub of_txn : ℕ → (Session → Session) → Session → Option Work → Session
of_txn txn f session None = session
of_txn txn f session (Some work) = if work.txn == txn then f session else session

abbrev pub change_txn : ℕ → (Session → Session) → List Session → List Session
change_txn txn f sessions = map (λ session. of_txn txn f session session.work) sessions

abbrev pub work_with_id : ℕ → Option Work → Option Work
work_with_id id None = None
work_with_id id (Some work) = Some (record work { id = id })

-- the transaction has the next id
abbrev pub identified : ℕ → WorldState → WorldState
identified txn state =
    record state {
      txns = record state.txns { open_txns = with_txn_id txn state.txns.next state.txns.open_txns; next = state.txns.next + 1 };
      sessions = change_txn txn (λ session. record session { work = work_with_id state.txns.next session.work }) state.sessions;
    }

-- the transaction has a savepoint of this name, in place of an older one
abbrev pub with_save : ℕ → List ℕ → ℕ → WorldState → WorldState
with_save txn name made state =
    record state {
      sessions = change_txn txn (λ session. record session
          { setting = record session.setting { saves = saved name made true session.setting.saves } }) state.sessions;
    }

-- the savepoints behind this one are gone
abbrev pub back_at_save : ℕ → List ℕ → WorldState → WorldState
back_at_save txn name state =
    record state {
      sessions = change_txn txn (λ session. record session { setting = record session.setting { saves = back_to name session.setting.saves } })
          state.sessions;
    }

-- the history has room for a Begin, and for a change with its Undone
abbrev pub with_room : ℕ → Session → WorldState → WorldState
with_room s session state = with_session s (record session { can_begin = true; can_change = true }) state

abbrev pub begin_added : ℕ → ℕ → Level → Session → Work → WorldState → WorldState
begin_added s txn level session work state =
    with_entry (Begin s txn level) (with_work s (record session { can_begin = false }) (record work { can_end = true }) state)

abbrev pub view_added : ℕ → List ℕ → ℕ → Session → Work → WorldState → WorldState
view_added s active next session work state =
    with_entry (View s) (with_work s session (record work { view = Some (record { active = active; next = next }) }) state)

-- A change of a row, which puts so many rows.
abbrev pub change_added : ℕ → Change → ℕ → Session → Work → WorldState → WorldState
change_added s change rows session work state =
    record (with_entry (Changed s change) (with_work s (record session { can_change = false }) (record work { own = work.own + 1 }) state))
    { rows = state.rows + rows }

abbrev pub undone_added : ℕ → ℕ → Session → Work → WorldState → WorldState
undone_added s keep session work state = with_entry (Undone s keep) (with_work s session (record work { own = work.own - 1 }) state)

-- what is told of the view that a transaction keeps
abbrev pub IsShown : Option Seen → List ℕ → Option ℕ → Type 0
IsShown None read next = next ≡ None
IsShown (Some view) read next = (read ≡ view.active) × (next ≡ Some view.next)
