-- What is known of a disk's past, and how it goes on. Where a clock stands at its end, nothing is said.
use Rattle.std.specs.Prelude.{◌≡◌, ℕ, ◌-◌, ◌^◌, ◌<◌, ◌≤◌, Option, Some}
use Rattle.store_api.specs.Areas.{State}
use Rattle.store_api.specs.Causes.{next_count}

-- The clock, the count of faults, and the state at each moment so far, where the disk tells it. A file tells none.
pub record Past : Type 0 where
  pub moment : ℕ
  pub faults : ℕ
  pub state_at : ℕ → Option State

abbrev pub Ticks : ℕ → Type 0
Ticks moment = moment < 2 ^ 64 - 1

-- the disk's state has P now, where it is told
abbrev pub Now : (State → Type 0) → Past → Type 0
Now P past = (s : State) → Ticks past.moment → past.state_at past.moment ≡ Some s → P s

-- One call more: the clock has gone on by one, and the state by a step.
pub record Goes (step : State → State → Type 0) (old new : Past) : Type 0 where
  pub later : old.moment ≤ new.moment
  pub clock : new.moment ≡ next_count old.moment
  pub kept : (m : ℕ) → Ticks old.moment → m ≤ old.moment → new.state_at m ≡ old.state_at m
  pub now : (s : State) → Ticks old.moment → new.state_at new.moment ≡ Some s → (before : State) × (old.state_at old.moment ≡ Some before) × step before s

-- Some calls more, at each of whose moments the state had P.
pub record Meanwhile (P : State → Type 0) (old new : Past) : Type 0 where
  pub later : old.moment ≤ new.moment
  pub kept : (m : ℕ) → Ticks new.moment → m ≤ old.moment → new.state_at m ≡ old.state_at m
  pub each : (m : ℕ) (s : State) → Ticks new.moment → old.moment < m → m ≤ new.moment → new.state_at m ≡ Some s → P s
