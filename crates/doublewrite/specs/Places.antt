-- What reads of the area Pages give once a batch is staged, or one of its pages is placed.
use Rattle.std.specs.Prelude.{◌≡◌, ◌≢◌, ℕ, ◌≤◌, Some, List}
use Rattle.store_api.specs.Areas.{State}
use Rattle.store_api.specs.Past.{Past, Ticks}
use Rattle.doublewrite.specs.Kept.{filled}

-- Some calls later: where the disk tells its state, it told the one before them too, from which it has come by this.
pub record Leads (step : State → State → Type 0) (old new : Past) : Type 0 where
  pub later : old.moment ≤ new.moment
  pub now : (s : State) → Ticks new.moment → new.state_at new.moment ≡ Some s → (before : State) × (old.state_at old.moment ≡ Some before) × step before s

-- the area Pages is as before
abbrev pub LeavesPages : State → State → Type 0
LeavesPages before s = s.pages ≡ before.pages

-- A read gives that page in its place, and each other page as before.
pub record PutsPage (number : ℕ) (bytes : List ℕ) (before s : State) : Type 0 where
  pub here : filled number s.pages.seen ≡ bytes
  pub elsewhere : (other : ℕ) → other ≢ number → filled other s.pages.seen ≡ filled other before.pages.seen
