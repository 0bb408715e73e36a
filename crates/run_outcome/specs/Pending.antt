-- What each session has changed and not yet committed.
use Rattle.std.specs.Prelude.{◌≡◌, ℕ, ◌==◌, if◌then◌else◌, List, [], slice_index_or}
use Rattle.inno_db.specs.declared.change.Change.{Change}

-- the changes of a session, the oldest first
abbrev pub changes_of : ℕ → List (List Change) → List Change
changes_of s pending = slice_index_or pending s []

-- the session's are these now, and the others' stay
abbrev pub Becomes : ℕ → List Change → List (List Change) → List (List Change) → Type 0
Becomes s changes old new = (t : ℕ) → changes_of t new ≡ (if s == t then changes else changes_of t old)
