-- What a disk held before the calls that have ended now.
use Rattle.std.specs.Prelude.{◌≡◌, Some}
use Rattle.store_api.specs.Areas.{State}
use Rattle.store_api.specs.Past.{Past, Ticks}

-- Where the disk tells what it holds now, it told it before these calls, and it had P then.
abbrev pub Since : (State → Type 0) → Past → Past → Type 0
Since P old new = (s : State) → Ticks new.moment → new.state_at new.moment ≡ Some s → (before : State) × (old.state_at old.moment ≡ Some before) × P before
