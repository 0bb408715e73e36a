-- Places by bucket: each place of a list is in one bucket, or in none.
use Rattle.std.specs.Prelude.{◌≡◌, ◌≢◌, ℕ, ◌+◌, ◌<◌, ◌≤◌, Option, None, Some, List, length, get_or}

-- what contracts see of chains
pub record Chained : Type 0 where
  -- of each place its bucket, in order
  pub marks : List (Option ℕ)
  -- the memory, for so many places; there are as many buckets
  pub room : ℕ

-- of the first places, as many as the limit, so many end with the last one of the bucket; 0 if none is of it
pub record IsLast (bucket : ℕ) (marks : List (Option ℕ)) (limit last : ℕ) : Type 0 where
  pub within : last ≤ limit
  pub there : (i : ℕ) → last ≡ i + 1 → get_or marks i None ≡ Some bucket
  pub behind : (i : ℕ) → last ≤ i → i < limit → get_or marks i None ≢ Some bucket

-- the first place of the bucket from one on, or the number of all places
pub record IsNext (bucket : ℕ) (marks : List (Option ℕ)) (from next : ℕ) : Type 0 where
  pub within : next ≤ length marks
  pub later : from ≤ length marks → from ≤ next
  pub there : next < length marks → get_or marks next None ≡ Some bucket
  pub between : (i : ℕ) → from ≤ i → i < next → get_or marks i None ≢ Some bucket

-- each bucket leads to its last place, and each place of a bucket to the one before it
pub record AreLinked (newest : List ℕ) (marks : List (Option ℕ)) (older : List ℕ) : Type 0 where
  pub heads : (bucket : ℕ) → bucket < length newest → IsLast bucket marks (length marks) (get_or newest bucket 0)
  pub long : length older ≡ length marks
  pub links : (i bucket : ℕ) → get_or marks i None ≡ Some bucket → IsLast bucket marks i (get_or older i 0)
  pub buckets : (i bucket : ℕ) → get_or marks i None ≡ Some bucket → bucket < length newest
