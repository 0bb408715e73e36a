-- Calls of a disk that write the log alone, and what it held before some calls.
use Rattle.std.specs.Prelude.{◌≡◌, Some}
use Rattle.store_api.specs.Areas.{State}
use Rattle.store_api.specs.Past.{Past, Ticks}

-- the pages and their copies are those of before
abbrev pub LeavesPages : Past → Past → Type 0
LeavesPages old new = (s : State) → Ticks new.moment → new.state_at new.moment ≡ Some s
    → Ticks old.moment × (before : State) × (old.state_at old.moment ≡ Some before) × (s.double ≡ before.double) × (s.pages ≡ before.pages)

-- Where the disk tells what it holds now, this is what it held before.
abbrev pub Had : (State → Type 0) → Past → Past → Type 0
Had P old new = (s : State) → Ticks new.moment → new.state_at new.moment ≡ Some s
    → Ticks old.moment × (before : State) × (old.state_at old.moment ≡ Some before) × P before
