-- What contracts see of a world: all that the sessions of one engine share, as plain lists.
use Rattle.std.specs.Prelude.{◌≡◌, ℕ, ◌≤◌, ◌<◌, Bool, List, ◌∷◌, length, slice_get, slice_set, Option, None, Some}
use Rattle.inno_types.specs.declared.lock.Level.{Level}
use Rattle.inno_types.specs.declared.value.Schema.{Schema}
use Rattle.inno_db.specs.Indexes.{index_of}
use Rattle.inno_model.specs.declared.event.Event.{Event}
use Rattle.store_api.specs.declared.answers.Standing.{Standing}
use Rattle.store_api.specs.declared.answers.Undo.{Undo}
use Rattle.entries.specs.Index.{Index}
use Rattle.lock_table.specs.Queue.{Lists}
use Rattle.lock_table.specs.View.{Table, with_lists}
use Rattle.row_versions.specs.Versions.{Versions}
use Rattle.sql_history.specs.Settings.{Setting, next_level}
use Rattle.txn_table.specs.Txns.{Txns}
use Rattle.world.specs.Stores.{Pages}

-- an undo record, and the roll pointer that leads to it
pub record Logged : Type 0 where
  pub pointer : ℕ
  pub undo : Undo

-- the ids that were active when a view was taken, and the next one then
pub record Seen : Type 0 where
  pub active : List ℕ
  pub next : ℕ

-- an open transaction
pub record Work : Type 0 where
  pub txn : ℕ
  pub level : Level
  -- 0 until it first writes
  pub id : ℕ
  -- how many changes of its own stand
  pub own : ℕ
  pub view : Option Seen
  -- its undo records, the newest first
  pub log : List Logged
  -- whether the history has room for the entry by which it ends
  pub can_end : Bool

pub record Session : Type 0 where
  pub setting : Setting
  pub work : Option Work
  -- whether the history has room for the entry by which the session's item ends, and for that which acknowledges its commit
  pub can_reply : Bool
  pub can_ack : Bool
  -- whether it has room for a Begin, and for one change of a row with its Undone
  pub can_begin : Bool
  pub can_change : Bool
  -- the longest undo record for which its log has room, and the roll pointer that the next one will have
  pub undo_room : ℕ
  pub next_pointer : ℕ

pub record WorldState : Type 0 where
  -- the names of the sessions
  pub names : List (List ℕ)
  -- the entries of the history, the newest first
  pub past : List Event
  -- how many rows the history holds
  pub rows : ℕ
  -- the tables by number
  pub schemas : List Schema
  -- the indexes by number: that of a table times 8, and 1 to 4 more for its keys in order
  pub indexes : ℕ → Index
  -- older versions by roll pointer
  pub versions : Versions
  pub txns : Txns
  -- by number
  pub sessions : List Session
  -- granted locks, requests that wait, and the memory for both
  pub locks : Table
  -- the transactions that were chosen as victims and have not ended, by number
  pub fallen : List ℕ
  -- A world in memory has no pages.
  pub paged : Option Pages

-- the index is there
pub record IsIndex (schemas : List Schema) (index : ℕ) : Type 0 where
  pub table : ℕ
  pub which : ℕ
  pub number : index ≡ index_of table which
  pub schema : Schema
  pub there : slice_get schemas table ≡ Some schema
  pub key : which ≤ length schema.keys
  pub few : which < 8

-- ---- sessions

-- the session has this state
abbrev pub IsSession : ℕ → Session → WorldState → Type 0
IsSession s session state = slice_get state.sessions s ≡ Some session

-- the session's open transaction
pub record HasWork (s : ℕ) (session : Session) (work : Work) (state : WorldState) : Type 0 where
  pub session_is : IsSession s session state
  pub work_is : session.work ≡ Some work

abbrev pub txn_of : Option Work → Option ℕ
txn_of None = None
txn_of (Some work) = Some work.txn

abbrev pub level_of : Setting → Option Work → Level
level_of setting None = next_level setting
level_of setting (Some work) = work.level

abbrev pub id_of : Option Work → ℕ
id_of None = 0
id_of (Some work) = work.id

abbrev pub own_of : Option Work → ℕ
own_of None = 0
own_of (Some work) = work.own

-- the open transaction's level, or else the next one's
abbrev pub standing_of : Session → Standing
standing_of session =
    record {
      txn = txn_of session.work;
      level = level_of session.setting session.work;
      autocommit = session.setting.autocommit;
      id = id_of session.work;
      own
          = own_of session.work;
    }

-- ---- what a call changes

-- the session is another now
abbrev pub with_session : ℕ → Session → WorldState → WorldState
with_session s session state = record state { sessions = slice_set state.sessions s session }

-- the session's open transaction is another now
abbrev pub with_work : ℕ → Session → Work → WorldState → WorldState
with_work s session work state = with_session s (record session { work = Some work }) state

-- an entry more
abbrev pub with_entry : Event → WorldState → WorldState
with_entry event state = record state { past = event ∷ state.past }

-- locks and requests are these now
abbrev pub with_locks : Lists → WorldState → WorldState
with_locks lists state = record state { locks = with_lists state.locks lists }
