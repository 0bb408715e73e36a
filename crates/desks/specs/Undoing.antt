-- How much of a change that is being taken back is left, as one number.
use Rattle.std.specs.Prelude.{ℕ, zero, suc, ◌+◌, ◌*◌, ◌^◌, ◌==◌, if◌then◌else◌, length, slice_get, Option, None, Some}
use Rattle.inno_types.specs.declared.value.Schema.{Schema}
use Rattle.row_versions.specs.declared.kept.Kept.{Kept}
use Rattle.world.specs.State.{WorldState}
use Rattle.desks.specs.declared.desk.Desk.{Desk}
use Rattle.undo_apply.specs.{declared.work_room.Stage.Stage, declared.work_room.Stage.TheVariants.Walk, Rooms.steps_left}
use Rattle.row_search.specs.Tables.{most_versions}

abbrev pub one_more : Option Kept → (ℕ → ℕ) → ℕ
one_more None further = 0
one_more (Some found) further = 1 + further found.version.pointer

-- how many versions are kept from a pointer on, up to so many
abbrev pub versions_from : ℕ → (ℕ → Option Kept) → ℕ → ℕ
versions_from zero kept pointer = 0
versions_from (suc most) kept pointer = if pointer == 0 then 0 else one_more (kept pointer) (versions_from most kept)

-- the steps that are left, and within a walk the versions
abbrev pub left_at : ℕ → ℕ → (ℕ → Option Kept) → Stage → ℕ
left_at keys most kept (Walk which pointer) = steps_left keys (Walk which pointer) * 2 ^ 64 + versions_from most kept pointer
left_at keys most kept stage = steps_left keys stage * 2 ^ 64

abbrev pub keys_if : Option Schema → ℕ
keys_if None = 0
keys_if (Some schema) = length schema.keys

abbrev pub undo_left_in : ℕ → Stage → WorldState → ℕ
undo_left_in table stage state = left_at (keys_if (slice_get state.schemas table)) most_versions state.versions.kept_at stage

-- so much of the change that the session takes back
abbrev pub left_in : WorldState → Option Desk → ℕ
left_in state None = 0
left_in state (Some desk) = undo_left_in desk.undo.table desk.room.stage state
