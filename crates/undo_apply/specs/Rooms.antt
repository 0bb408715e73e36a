-- The buffers of a room, and how many steps are left from a stage.
use Rattle.std.specs.Prelude.{◌≡◌, ℕ, ◌+◌, ◌*◌, ◌-◌, ◌≤◌, [], ◌∷◌, vec_capacity}
use Rattle.undo_apply.specs.{declared.work_room.WorkRoom.WorkRoom, declared.work_room.Stage.Stage}
use Rattle.undo_apply.specs.declared.work_room.Stage.TheVariants.{Find, Key, Walk, Mark, Remove, Unmark, Record}

-- The buffers hold the longest record, version and key.
pub record IsWhole (room : WorkRoom) : Type 0 where
  pub newest : 1024 ≤ vec_capacity room.newest
  pub older : 1024 ≤ vec_capacity room.older
  pub next : 67 ≤ vec_capacity room.next
  pub marked : room.marked ≡ 1 ∷ []
  pub unmarked : room.unmarked ≡ 0 ∷ []

-- how many steps are left in a table of so many keys, where each walk is one
abbrev pub steps_left : ℕ → Stage → ℕ
steps_left keys Find = 4 * keys + 5
steps_left keys (Key which) = 4 * (keys - which) + 4
steps_left keys (Walk which pointer) = 4 * (keys - which) + 3
steps_left keys (Mark which) = 4 * (keys - which) + 2
steps_left keys (Remove which) = 4 * (keys - which) + 2
steps_left keys (Unmark which) = 4 * (keys - which) + 1
steps_left keys Record = 0
