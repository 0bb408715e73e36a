-- Granted locks by their places.
use Rattle.std.specs.Prelude.{◌≡◌, ℕ, ◌+◌, ◌<◌, ◌≤◌, ◌%◌, ◌^◌, Bool, true, false, ◌==◌, Option, None, Some, List, [], ◌∷◌, length, get_or, bit_xor}
use Rattle.inno_types.specs.declared.lock.Lock.{Lock}
use Rattle.inno_types.specs.declared.lock.Spot.{Spot}
use Rattle.sum64.specs.Fnv.{fnv_of}
use Rattle.lock_lists.specs.Last.{Chained}

-- what contracts see of granted locks
pub record Granted : Type 0 where
  -- the lock of each place, in order of grant; a place whose lock has gone has none
  pub places : List (Option Lock)
  -- the memory: for so many locks
  pub room : ℕ

-- the locks, in order of grant
abbrev pub locks_of : List (Option Lock) → List Lock
locks_of [] = []
locks_of (None ∷ places) = locks_of places
locks_of (Some lock ∷ places) = lock ∷ locks_of places

-- there are places for so many locks more
abbrev pub HasFree : ℕ → Granted → Type 0
HasFree locks granted = length granted.places + locks ≤ granted.room + granted.room

abbrev pub sum_at : ℕ → Option (List ℕ) → ℕ
sum_at index None = index
sum_at index (Some key) = bit_xor (fnv_of key) index

-- a number that two locks of one spot share
abbrev pub sum_of : Spot → ℕ
sum_of spot = sum_at spot.index spot.key

-- the place has a lock that passes
abbrev pub holds_at : (Lock → Bool) → Option Lock → Bool
holds_at test None = false
holds_at test (Some lock) = test lock

-- the first place from one on that has such a lock
pub record IsFirst (test : Lock → Bool) (places : List (Option Lock)) (from place : ℕ) : Type 0 where
  pub later : from ≤ place
  pub within : place < length places
  pub there : holds_at test (get_or places place None) ≡ true
  pub between : (i : ℕ) → from ≤ i → i < place → holds_at test (get_or places i None) ≡ false

-- no place from this one on has such a lock
pub record HasNoneFrom (test : Lock → Bool) (places : List (Option Lock)) (from : ℕ) : Type 0 where
  pub none : (i : ℕ) → from ≤ i → i < length places → holds_at test (get_or places i None) ≡ false

-- the last of the first places, as many as the limit, that has such a lock
pub record IsLastSuch (test : Lock → Bool) (places : List (Option Lock)) (limit place : ℕ) : Type 0 where
  pub below : place < limit
  pub there : holds_at test (get_or places place None) ≡ true
  pub behind : (i : ℕ) → place < i → i < limit → holds_at test (get_or places i None) ≡ false

-- none of the first places, as many as the limit, has such a lock
pub record HasNoneBelow (test : Lock → Bool) (places : List (Option Lock)) (limit : ℕ) : Type 0 where
  pub none : (i : ℕ) → i < limit → holds_at test (get_or places i None) ≡ false

abbrev pub is_of : ℕ → Lock → Bool
is_of txn lock = lock.txn == txn

-- the bucket of a lock by its spot, of so many
abbrev pub mark_of : ℕ → Option Lock → Option ℕ
mark_of buckets None = None
mark_of buckets (Some lock) = Some (sum_of lock.spot % buckets)

-- the chains of spots have each lock at its place, and those of transactions too, and perhaps places whose locks have gone
pub record AreChained (places : List (Option Lock)) (spots txns : Chained) : Type 0 where
  pub spots_long : length spots.marks ≡ length places
  pub spots_at : (i : ℕ) → get_or spots.marks i None ≡ mark_of spots.room (get_or places i None)
  pub txns_long : length txns.marks ≡ length places
  pub txns_at : (i : ℕ) (lock : Lock) → get_or places i None ≡ Some lock → get_or txns.marks i None ≡ Some (lock.txn % txns.room)

-- the facts of granted locks: how many there are, and the memory for twice as many places as locks
pub record AreKept (places : List (Option Lock)) (spots txns : Chained) (count room capacity : ℕ) : Type 0 where
  pub chained : AreChained places spots txns
  pub counted : count ≡ length (locks_of places)
  pub within : length places ≤ room + room
  pub spots_room : spots.room ≡ room + room
  pub txns_room : txns.room ≡ room + room
  pub holds : room + room ≤ capacity
  pub fits : room + room < 2 ^ 64
