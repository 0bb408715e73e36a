-- What calls of a log leave of the areas beside its own.
use Rattle.std.specs.Prelude.{◌≡◌, ℕ, ◌≤◌, Some}
use Rattle.store_api.specs.Areas.{State}
use Rattle.store_api.specs.Past.{Past, Ticks}

-- The areas beside the log hold the same: what a read gives of them, what was synced, and what was written since.
pub record HasSameBeside (old new : State) : Type 0 where
  pub double : new.double ≡ old.double
  pub pages : new.pages ≡ old.pages

-- Some calls more. At each moment from the one before them on, the areas beside the log hold what they held then.
pub record LeavesBeside (old new : Past) : Type 0 where
  pub later : old.moment ≤ new.moment
  pub kept : (m : ℕ) → Ticks new.moment → m ≤ old.moment → new.state_at m ≡ old.state_at m
  pub each : (m : ℕ) (s : State) → Ticks new.moment → old.moment ≤ m → m ≤ new.moment → new.state_at m ≡ Some s →
      (before : State) × (old.state_at old.moment ≡ Some before) × HasSameBeside before s
