-- Lists of bytes, one of each length.
use Rattle.std.specs.Prelude.{◌≡◌, ℕ, ◌<◌, List, [], length, slice_index_or}

-- so many lists, and each is as long as its place's number
pub record AreOfEachLength (size : ℕ) (lists : List (List ℕ)) : Type 0 where
  pub count : length lists ≡ size
  pub each : (n : ℕ) → n < size → length (slice_index_or lists n []) ≡ n
