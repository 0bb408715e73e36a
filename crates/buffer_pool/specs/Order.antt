-- The pages in the order of their last use.
use Rattle.std.specs.Prelude.{ℕ, Bool, List, [], ◌∷◌, ◌==◌, Option, Some, None, if◌then◌else◌}
use Rattle.std.specs.Option.{option_map_or}

-- all but the first that is this page
abbrev pub without : ℕ → List ℕ → List ℕ
without page [] = []
without page (other ∷ order) = if page == other then order else other ∷ without page order

-- the page stands first, since it was used last
abbrev pub used : ℕ → List ℕ → List ℕ
used page order = page ∷ without page order

-- the last page that passes
abbrev pub last_where : (ℕ → Bool) → List ℕ → Option ℕ
last_where test [] = None
last_where test (page ∷ order) = option_map_or Some (last_where test order) (if test page then Some page else None)
