-- The keys that locks cover, in an index with the list of its records' keys.
use Rattle.std.specs.Prelude.{ℕ, Bool, true, ◌==◌, ◌&&◌, ◌||◌, not, nat_eq, List, filter, Option, None, Some}
use Rattle.std.specs.List.{list_any, list_all}
use Rattle.std.specs.Ordering.{nat_cmp, is_lt}
use Rattle.std.specs.Cmp.Lexicographic.{slice_cmp, pointwise}
use Rattle.inno_types.specs.declared.lock.Lock.{Lock}
use Rattle.lock_rules.specs.Kinds.{locks_record, locks_gap}
use Rattle.lock_rules.specs.Spots.{same_key}
use Rattle.lock_rules.specs.Conflicts.{kind_of}

abbrev pub is_below : List ℕ → List ℕ → Bool
is_below key other = is_lt (slice_cmp nat_cmp key other)

-- every key stands before the supremum
abbrev pub is_before : List ℕ → Option (List ℕ) → Bool
is_before key None = true
is_before key (Some other) = is_below key other

-- the key stands before the spot, and behind each record before the spot
abbrev pub is_in_gap : List (List ℕ) → Option (List ℕ) → List ℕ → Bool
is_in_gap records spot key = is_before key spot && list_all (λ r. not (is_before r spot) || is_below r key) records

-- a lock of a gap covers the keys strictly between the record before its spot and its spot, a lock of a record its own
abbrev pub covers_key : List (List ℕ) → Lock → List ℕ → Bool
covers_key records lock key =
    (locks_gap (kind_of lock) && is_in_gap records lock.spot.key key) || (locks_record (kind_of lock) && same_key lock.spot.key (Some key))

-- some lock of the transaction in the index covers the key
abbrev pub covered : ℕ → ℕ → List (List ℕ) → List Lock → List ℕ → Bool
covered txn index records locks key = list_any (λ lock. lock.txn == txn && lock.spot.index == index && covers_key records lock key) locks

-- the spot is one of a record, or the supremum
abbrev pub stands_in : List (List ℕ) → Option (List ℕ) → Bool
stands_in records None = true
stands_in records (Some key) = list_any (λ r. pointwise nat_eq r key) records

-- the other records
abbrev pub without_record : List ℕ → List (List ℕ) → List (List ℕ)
without_record key records = filter (λ r. not (pointwise nat_eq r key)) records
