-- How far a walk back along a chain has come.
use Rattle.std.proofs.Common.{◌≡◌, ◌≢◌, ℕ, ◌+◌, ◌<◌, ◌≤◌, List, length, get_or}
use Rattle.std.specs.Prelude.{Option, None, Some}

-- the walk is at a place of the bucket or at its end, and came past no place of it below the limit
pub record IsBack (bucket : ℕ) (marks : List (Option ℕ)) (limit at : ℕ) : Type 0 where
  pub within : at ≤ length marks
  pub there : (i : ℕ) → at ≡ i + 1 → get_or marks i None ≡ Some bucket
  pub behind : (i : ℕ) → at ≤ i → i < limit → get_or marks i None ≢ Some bucket

-- and came past the next place from one on last
pub record IsPast (bucket : ℕ) (marks : List (Option ℕ)) (from next at : ℕ) : Type 0 where
  pub within : at ≤ next
  pub long : next ≤ length marks
  pub later : from ≤ length marks → from ≤ next
  pub there : (i : ℕ) → at ≡ i + 1 → get_or marks i None ≡ Some bucket
  pub next_there : next < length marks → get_or marks next None ≡ Some bucket
  pub between : (i : ℕ) → at ≤ i → i < next → get_or marks i None ≢ Some bucket
