-- Where locks stand: on records of their index, or on its supremum.
use Rattle.std.specs.Prelude.{◌≡◌, ℕ, true, List, ◌++◌}
use Rattle.std.specs.List.{AllByRecursion}
use Rattle.inno_types.specs.declared.lock.Spot.{Spot}
use Rattle.inno_types.specs.declared.lock.Lock.{Lock}
use Rattle.lock_rules.specs.Coverage.{stands_in, without_record}
use Rattle.lock_table.specs.Coverage.{IsInsertion, IsRemoval, MayInsert}
use Rattle.lock_table.specs.Records.{copies}
use Rattle.law_locks.specs.Guards.{has_record}

-- each lock in the index is on a record of it or on the supremum
abbrev pub LocksStand : ℕ → List (List ℕ) → List Lock → Type 0
LocksStand index records locks = AllByRecursion (λ lock. lock.spot.index ≡ index → stands_in records lock.spot.key ≡ true) locks

-- each granted lock and each request
pub record AllStand (index : ℕ) (records : List (List ℕ)) (granted waiting : List Lock) : Type 0 where
  pub granted_stand : LocksStand index records granted
  pub waiting_stand : LocksStand index records waiting

-- A transaction inserts a record of a new key before the next spot: nothing granted conflicts with its intention there,
-- and afterwards it has the record, and its own locks of the gap on it too.
pub record Inserts (txn : ℕ) (records : List (List ℕ)) (key : List ℕ) (new next : Spot) (old locks : List Lock) : Type 0 where
  pub insertion : IsInsertion records key new next
  pub intention : Lock
  pub may : MayInsert txn next old intention
  pub more : List Lock
  pub locks_are : locks ≡ old ++ copies txn new next old ++ more
  pub its_own : has_record txn new.index key locks ≡ true

-- a record of a key goes, and the next spot is the one that follows it
pub record Removes (records : List (List ℕ)) (key : List ℕ) (gone next : Spot) : Type 0 where
  pub removal : IsRemoval records key gone next
  pub stands : stands_in records gone.key ≡ true
  pub next_stands : stands_in (without_record key records) next.key ≡ true
