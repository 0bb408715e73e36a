-- Calls of a disk that write nothing.
use Rattle.std.specs.Prelude.{◌≡◌, ℕ, ◌≤◌, Some}
use Rattle.store_api.specs.Areas.{Contents, State}
use Rattle.store_api.specs.Past.{Past, Ticks}

-- the same is on the disk, whatever a read gives
abbrev pub HoldsSame : Contents → Contents → Type 0
HoldsSame old new = (new.synced ≡ old.synced) × (new.writes ≡ old.writes)

pub record HoldsAs (before s : State) : Type 0 where
  pub log : HoldsSame before.log s.log
  pub double : HoldsSame before.double s.double
  pub pages : HoldsSame before.pages s.pages

-- At each moment of the calls the disk held the same.
pub record Looks (old new : Past) : Type 0 where
  pub later : old.moment ≤ new.moment
  pub kept : (m : ℕ) → Ticks new.moment → m ≤ old.moment → new.state_at m ≡ old.state_at m
  pub each : (m : ℕ) (s : State) → Ticks new.moment → old.moment ≤ m → m ≤ new.moment → new.state_at m ≡ Some s
      → (before : State) × (old.state_at old.moment ≡ Some before) × HoldsAs before s

-- calls that have all succeeded: the state is that of before
abbrev pub LeavesState : Past → Past → Type 0
LeavesState old new = (s : State) → Ticks new.moment → new.state_at new.moment ≡ Some s → Ticks old.moment × (old.state_at old.moment ≡ Some s)
