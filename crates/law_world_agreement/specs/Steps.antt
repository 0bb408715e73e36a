-- What the steps of transactions make of a world, each with its entry.
use Rattle.std.specs.Prelude.{◌≡◌, ◌≢◌, ℕ, ◌+◌, ◌==◌, if◌then◌else◌, [], ◌∷◌, ◌++◌, List, length, slice_get, option_map, Some, None}
use Rattle.inno_types.specs.{declared.value.Schema.Schema, declared.lock.Level.Level}
use Rattle.std.specs.FinMap.{get}
use Rattle.inno_db.specs.{Database.Database, declared.change.Change.Change}
use Rattle.inno_model.specs.{declared.event.Event.Event, declared.event.Event.TheVariants.Opened, declared.event.Event.TheVariants.Changed}
use Rattle.inno_model.specs.{declared.event.Event.TheVariants.Undone}
use Rattle.txn_table.specs.Txns.{ids_of, with_id as with_txn_id}
use Rattle.row_versions.specs.{declared.place.Place.Place, Chains.Chains, Chains.in_model, Chains.versions_at}
use Rattle.law_past_agreement.specs.{Slots.id_for, Agreement.IsOpenedWith}
use Rattle.world.specs.{State.WorldState, State.Session, State.Work, State.HasWork, Sessions.fresh_work, Sessions.begun, Sessions.begin_added}
use Rattle.world.specs.{Sessions.view_added}
use Rattle.sql_history.specs.Settings.{at_begin}

-- the session as it has begun its next transaction
abbrev pub session_begun : Level → Session → WorldState → Session
session_begun level session state = record session { setting = at_begin session.setting; work = Some (fresh_work (state.txns.begun + 1) level) }

-- a transaction is opened, and its entry added
abbrev pub opened : ℕ → Level → Session → WorldState → WorldState
opened s level session state =
    begin_added s (state.txns.begun + 1) level (session_begun level session state) (fresh_work (state.txns.begun + 1) level) (begun s level session state)

-- a view is taken of what is open now, and its entry added
abbrev pub viewed : ℕ → Session → Work → WorldState → WorldState
viewed s session work state = view_added s (ids_of state.txns.open_txns) state.txns.next session work state

-- the transaction has made one change more
pub record HasOneMore (before after : Work) (id : ℕ) : Type 0 where
  pub txn : after.txn ≡ before.txn
  pub level : after.level ≡ before.level
  pub view : after.view ≡ before.view
  pub own : after.own ≡ before.own + 1
  pub id_is : after.id ≡ id

-- The session has made a change, by which its transaction has an id, and these are the tables now. Of rows nothing is said.
pub record IsChangedBy (s : ℕ) (change : Change) (tables : List Schema) (old new : WorldState) : Type 0 where
  pub session : Session
  pub work : Work
  pub had : HasWork s session work old
  pub session_now : Session
  pub work_now : Work
  pub has : HasWork s session_now work_now new
  pub more : HasOneMore work work_now (id_for work.id old.txns.next)
  pub past : new.past ≡ Changed s change ∷ old.past
  pub names : new.names ≡ old.names
  pub schemas : new.schemas ≡ tables
  pub txns : new.txns ≡ (if work.id == 0 then record old.txns { open_txns = with_txn_id work.txn old.txns.next old.txns.open_txns; next = old.txns.next + 1 }
      else old.txns)
  pub others : (t : ℕ) → t ≢ s → slice_get new.sessions t ≡ slice_get old.sessions t
  pub count : length new.sessions ≡ length old.sessions

-- The past is this now; no transaction has changed, and no table was made. Of rows nothing is said.
pub record IsEntered (past : List Event) (old new : WorldState) : Type 0 where
  pub past_is : new.past ≡ past
  pub names : new.names ≡ old.names
  pub schemas : new.schemas ≡ old.schemas
  pub txns : new.txns ≡ old.txns
  pub works : (u : ℕ) → option_map (λ session. session.work) (slice_get new.sessions u) ≡ option_map (λ session. session.work) (slice_get old.sessions u)
  pub count : length new.sessions ≡ length old.sessions

-- The session's newest change is put back, of which so many are left.
pub record IsTakenBackBy (s keep : ℕ) (old new : WorldState) : Type 0 where
  pub session : Session
  pub work : Work
  pub had : HasWork s session work old
  pub session_now : Session
  pub work_now : Work
  pub has : HasWork s session_now work_now new
  pub txn : work_now.txn ≡ work.txn
  pub level : work_now.level ≡ work.level
  pub id_is : work_now.id ≡ work.id
  pub view : work_now.view ≡ work.view
  pub own : work_now.own ≡ keep
  pub past : new.past ≡ Undone s keep ∷ old.past
  pub names : new.names ≡ old.names
  pub schemas : new.schemas ≡ old.schemas
  pub txns : new.txns ≡ old.txns
  pub others : (t : ℕ) → t ≢ s → slice_get new.sessions t ≡ slice_get old.sessions t
  pub count : length new.sessions ≡ length old.sessions

-- Another session has joined, which has done nothing.
pub record IsJoined (name : List ℕ) (old new : WorldState) : Type 0 where
  pub session : Session
  pub closed : session.work ≡ None
  pub sessions : new.sessions ≡ old.sessions ++ session ∷ []
  pub names : new.names ≡ old.names ++ name ∷ []
  pub past : new.past ≡ old.past
  pub schemas : new.schemas ≡ old.schemas
  pub txns : new.txns ≡ old.txns

-- the world of a database, which nobody has joined: the newest version of each place has its row
pub record IsFirst (chains : Chains) (state : WorldState) : Type 0 where
  pub db : Database
  pub opened : (place : Place) → IsOpenedWith (get db.rows (in_model place)) (versions_at place chains)
  pub past : state.past ≡ Opened db ∷ []
  pub names : state.names ≡ []
  pub schemas : state.schemas ≡ db.schemas
  pub sessions : state.sessions ≡ []
  pub txns : state.txns ≡ record { open_txns = []; begun = 0; next = 1 }
