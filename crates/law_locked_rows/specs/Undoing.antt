-- Changes are taken back while others are at work: the last step of one, and what the session's own locks are to it.
use Rattle.std.specs.Prelude.{◌≡◌, ℕ, ◌-◌, ◌<◌, ◌^◌, true, List, length, Some}
use Rattle.inno_types.specs.declared.lock.Lock.{Lock}
use Rattle.inno_model.specs.Past.{own}
use Rattle.store_api.specs.declared.answers.Undo.{Undo}
use Rattle.law_stored_rows.specs.Edits.{clustered_index}
use Rattle.world.specs.{State.WorldState, Told.IsTold, Undoing.read_into, Undoing.IsCutBack, Sessions.undone_added}
use Rattle.undo_apply.specs.{Stages.IsDone, declared.work_room.WorkRoom.WorkRoom}
use Rattle.desks.specs.declared.desk.Doing.TheVariants.{Undoing}
use Rattle.desks.specs.{declared.desk.Desk.Desk, Desks.Store, Desks.desk_at, Holding.IsGoingBack, Holding.said_beside}
use Rattle.law_locks.specs.Guards.{has_alone}
use Rattle.law_locked_rows.specs.Many.{IsHeldByAll}

-- The newest change of the session is taken back: its row is what it was (`mid`), the undo record is cut off (`cut`), and the history tells it (`new`).
pub record IsTakenBack (t keep : ℕ) (store : Store) (granted : List Lock) (held : IsHeldByAll store granted) (mid cut new : WorldState) (desk : Desk)
    (next : WorkRoom) : Type 0 where
  pub told : IsTold store.world
  pub tells : IsTold new
  pub at_desk : desk_at t store.desks ≡ Some desk
  pub doing : desk.doing ≡ Undoing
  pub going : IsGoingBack held.chains (said_beside held.chains held.rows.said store.world store.desks t) store.world t (read_into desk.undo) desk.room
  pub done : IsDone held.chains (said_beside held.chains held.rows.said store.world store.desks t) going.place (read_into desk.undo) desk.room next
      store.world mid
  pub back : IsCutBack t mid cut
  pub new_is : new ≡ undone_added t keep (record back.session { undo_room = 0; next_pointer = back.next; work = Some (record back.work { log = back.log }) })
      (record back.work { log = back.log }) cut
  pub keep_is : keep ≡ length (own t store.world.past) - 1
  pub few : length new.past < 2 ^ 63

-- The transaction keeps the locks of records that it has alone, but that of a record which goes as this change is taken back.
abbrev pub KeepsAllBut : Undo → ℕ → List Lock → List Lock → Type 0
KeepsAllBut undo txn granted now =
    (index : ℕ) (key : List ℕ) → (undo.kind ≡ 1 → index ≡ clustered_index undo.table → key ≡ undo.key → ⊥)
    → has_alone txn index key granted ≡ true → has_alone txn index key now ≡ true
