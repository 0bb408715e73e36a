-- The spots of an index with these pairs: what the calls of a lock table are given as pairs come and go.
-- Laws of searches speak of an index so. An index is here the list of its pairs, in the order of their keys.
use Rattle.std.specs.Prelude.{◌≡◌, ℕ, List, map, None, Some, option_map, is_some, true}
use Rattle.inno_types.specs.declared.lock.Spot.{Spot}
use Rattle.inno_types.specs.declared.lock.Lock.{Lock}
use Rattle.entries.specs.Pairs.{Pair, AreRising, value_of, first_after}
use Rattle.lock_table.specs.View.{Table, IsGranted}
use Rattle.law_locks.specs.AtOnce.{IsIntention, TakesNew}

abbrev pub keys_of : List Pair → List (List ℕ)
keys_of pairs = map (λ (pair : Pair). pair.0) pairs

abbrev pub spot_at : ℕ → List ℕ → Spot
spot_at index key = record { index = index; key = Some key }

-- the spot that follows a key: the first pair above it, or the supremum
abbrev pub next_spot : ℕ → List ℕ → List Pair → Spot
next_spot index key pairs = record { index = index; key = option_map (λ (pair : Pair). pair.0) (first_after key pairs) }

-- A pair of a new key is put into an index, in the step in which the intention is granted before the next one.
pub record InsertsIn (txn index : ℕ) (pairs : List Pair) (key : List ℕ) (intention own : Lock) (old last : Table) : Type 0 where
  pub rising : AreRising pairs
  pub absent : value_of key pairs ≡ None
  pub intention_is : IsIntention txn (next_spot index key pairs) intention
  pub asked : Table
  pub granted : IsGranted old asked intention
  pub takes : TakesNew txn key (spot_at index key) (next_spot index key pairs) own asked last

-- the pair of a key is there
pub record StandsIn (pairs : List Pair) (key : List ℕ) : Type 0 where
  pub rising : AreRising pairs
  pub there : is_some (value_of key pairs) ≡ true
