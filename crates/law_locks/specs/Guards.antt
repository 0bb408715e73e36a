-- What a transaction's locks keep of the keys of one index: no other puts a record at the key, or changes or removes the
-- one that is there. An index has the list of its records' keys.
use Rattle.std.specs.Prelude.{◌≡◌, ◌⊎◌, ℕ, ◌-◌, ◌*◌, ◌==◌, ◌&&◌, nat_eq, Bool, true, false, not, List, length, take, Option, Some}
use Rattle.std.specs.List.{list_any}
use Rattle.std.specs.Cmp.Lexicographic.{pointwise}
use Rattle.store_api.specs.declared.answers.Undo.{Undo}
use Rattle.inno_types.specs.declared.lock.Lock.{Lock}
use Rattle.lock_rules.specs.Kinds.{locks_gap, locks_record, is_shared}
use Rattle.lock_rules.specs.Spots.{same_key}
use Rattle.lock_rules.specs.Conflicts.{kind_of}
use Rattle.lock_rules.specs.Coverage.{is_in_gap, stands_in}

-- the spot of a key: its own record, or else the record that follows it, or the supremum
pub record IsSpotOf (records : List (List ℕ)) (key : List ℕ) (spot : Option (List ℕ)) : Type 0 where
  pub stands : stands_in records spot ≡ true
  pub at : (spot ≡ Some key) ⊎ (is_in_gap records spot key ≡ true)

-- the lock is one of the transaction on this spot of the index
abbrev pub is_lock_at : ℕ → ℕ → Option (List ℕ) → Lock → Bool
is_lock_at txn index spot lock = lock.txn == txn && lock.spot.index == index && same_key lock.spot.key spot

abbrev pub is_gap_lock_at : ℕ → ℕ → Option (List ℕ) → Lock → Bool
is_gap_lock_at txn index spot lock = is_lock_at txn index spot lock && locks_gap (kind_of lock)

abbrev pub is_record_lock_at : ℕ → ℕ → List ℕ → Lock → Bool
is_record_lock_at txn index key lock = is_lock_at txn index (Some key) lock && locks_record (kind_of lock)

-- the transaction has locked the gap before the spot
abbrev pub has_gap : ℕ → ℕ → Option (List ℕ) → List Lock → Bool
has_gap txn index spot locks = list_any (is_gap_lock_at txn index spot) locks

-- it has locked the record of the key
abbrev pub has_record : ℕ → ℕ → List ℕ → List Lock → Bool
has_record txn index key locks = list_any (is_record_lock_at txn index key) locks

-- and for itself alone
abbrev pub has_alone : ℕ → ℕ → List ℕ → List Lock → Bool
has_alone txn index key locks = list_any (λ lock. is_record_lock_at txn index key lock && not (is_shared lock.mode)) locks

-- The transaction guards the key, whether a record stands there or not.
pub record Guards (txn index : ℕ) (records : List (List ℕ)) (locks : List Lock) (key : List ℕ) : Type 0 where
  -- nobody else puts a record there
  pub gap : (spot : Option (List ℕ)) → IsSpotOf records key spot → has_gap txn index spot locks ≡ true
  -- or changes the one that is there
  pub own : stands_in records (Some key) ≡ true → has_record txn index key locks ≡ true

-- The transaction has found the one record that a unique search looks for, and keeps it.
pub record Pins (txn index : ℕ) (records : List (List ℕ)) (locks : List Lock) (key : List ℕ) : Type 0 where
  pub stands : stands_in records (Some key) ≡ true
  pub own : has_record txn index key locks ≡ true

-- the undo record tells that this record of a clustered index is new: whoever takes the change back removes it
abbrev pub is_creation : ℕ → List ℕ → Undo → Bool
is_creation index key undo = undo.table * 8 == index && pointwise nat_eq undo.key key && undo.kind == 1

-- in a log, the newest record first, none that is newer than so many of the oldest ones tells that the record is new
abbrev pub IsOlder : ℕ → List ℕ → ℕ → List Undo → Type 0
IsOlder index key made log = list_any (is_creation index key) (take (length log - made) log) ≡ false

-- It keeps it, too, through a rollback to where its log had so many records.
pub record Pinned (txn index : ℕ) (records : List (List ℕ)) (locks : List Lock) (key : List ℕ) (made : ℕ) (log : List Undo) : Type 0 where
  pub pins : Pins txn index records locks key
  pub older : IsOlder index key made log

-- The transaction has searched for the key when its log had so many records, and keeps what it has found or not found.
abbrev pub Guarded : ℕ → ℕ → List (List ℕ) → List Lock → List ℕ → ℕ → List Undo → Type 0
Guarded txn index records locks key made log = Guards txn index records locks key ⊎ Pinned txn index records locks key made log
