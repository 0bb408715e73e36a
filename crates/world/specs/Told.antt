-- What a world tells of its rows. After a fault of a disk nobody knows what its pages hold.
use Rattle.std.specs.Prelude.{◌≡◌, ℕ, IsTrue, IsSome, List, [], Option, None, Some}
use Rattle.entries.specs.Index.{AreKept}
use Rattle.entries.specs.Pairs.{Pair}
use Rattle.row_versions.specs.Versions.{Stays}
use Rattle.world.specs.State.{WorldState}

abbrev pub pairs_in : Option (List Pair) → List Pair
pairs_in None = []
pairs_in (Some pairs) = pairs

-- the pairs of each index
abbrev pub pairs_of : WorldState → ℕ → List Pair
pairs_of state index = pairs_in (state.indexes index).pairs

-- all pairs and versions are told
pub record IsTold (state : WorldState) : Type 0 where
  pub pairs : (index : ℕ) → IsSome (state.indexes index).pairs
  pub versions : IsTrue state.versions.told

-- Pairs are told as long as versions are.
abbrev pub TellsTogether : WorldState → Type 0
TellsTogether state = IsTrue state.versions.told → (index : ℕ) → IsSome (state.indexes index).pairs

-- No table, no pair and no kept version has changed. Pairs and versions may be told no longer.
pub record LeavesRows (old new : WorldState) : Type 0 where
  pub schemas : new.schemas ≡ old.schemas
  pub pairs : (index : ℕ) → AreKept (old.indexes index).pairs (new.indexes index).pairs
  pub versions : Stays old.versions new.versions
