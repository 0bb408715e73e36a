-- How far the walks among granted locks have come.
use Rattle.std.proofs.Common.{◌≡◌, ℕ, ◌<◌, ◌≤◌, Bool, false, List, length, get_or, take}
use Rattle.std.specs.Prelude.{Option, None, Some}
use Rattle.inno_types.specs.declared.lock.Lock.{Lock}
use Rattle.lock_lists.specs.Last.{Chained}
use Rattle.lock_lists.specs.Places.{holds_at, IsFirst, AreChained}

-- of the places from the end of those that are left on, the first that passes is known
pub record IsSeen (test : Lock → Bool) (places : List (Option Lock)) (from end : ℕ) (next : Option ℕ) : Type 0 where
  pub within : end ≤ length places
  pub none : next ≡ None → (i : ℕ) → end ≤ i → i < length places → holds_at test (get_or places i None) ≡ false
  pub later : (place : ℕ) → next ≡ Some place → from ≤ place
  pub some : (place : ℕ) → next ≡ Some place → IsFirst test places end place

-- none passes behind those that are left, as far as the limit
pub record IsEmptied (test : Lock → Bool) (places : List (Option Lock)) (limit end : ℕ) : Type 0 where
  pub within : end ≤ limit
  pub none : (i : ℕ) → end ≤ i → i < limit → holds_at test (get_or places i None) ≡ false

-- the first places are chained
pub record IsChained (places : List (Option Lock)) (done : ℕ) (spots txns old_spots old_txns : Chained) : Type 0 where
  pub chained : AreChained (take done places) spots txns
  pub spots_stay : spots.room ≡ old_spots.room
  pub txns_stay : txns.room ≡ old_txns.room
