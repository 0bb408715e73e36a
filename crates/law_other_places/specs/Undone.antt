-- The newest change of a session is taken back, as the world sees it.
use Rattle.std.specs.Prelude.{◌≡◌, ℕ, ◌-◌, length, Some}
use Rattle.inno_model.specs.Past.{own}
use Rattle.store_api.specs.declared.answers.Undo.{Undo}
use Rattle.row_versions.specs.Chains.{Chains}
use Rattle.law_stored_rows.specs.Tables.{Said}
use Rattle.world.specs.{State.WorldState, Undoing.IsCutBack, Sessions.undone_added}
use Rattle.undo_apply.specs.{Stages.IsDone, declared.work_room.WorkRoom.WorkRoom}
use Rattle.law_logged_changes.specs.Logs.{IsAloneAt}
use Rattle.desks.specs.Holding.{IsGoingBack}

-- Its row is what it was (`mid`), the undo record is cut off (`cut`), and the history tells it (`new`). No other session has changes at its place.
pub record IsUndone (t keep : ℕ) (chains : Chains) (beside : Said) (source mid cut new : WorldState) (undo : Undo) (room next : WorkRoom) : Type 0 where
  pub going : IsGoingBack chains beside source t undo room
  pub done : IsDone chains beside going.place undo room next source mid
  pub back : IsCutBack t mid cut
  pub new_is : new ≡ undone_added t keep (record back.session { undo_room = 0; next_pointer = back.next; work = Some (record back.work { log = back.log }) })
      (record back.work { log = back.log }) cut
  pub keep_is : keep ≡ length (own t source.past) - 1
  pub alone : IsAloneAt going.place t source
