-- What a step of a search comes to: the first pair that it has not passed, or the record of an entry.
use Rattle.std.specs.Prelude.{◌≡◌, ℕ, ◌≤◌, Bool, true, false, List, [], ◌∷◌, ◌++◌, length, Option, None, Some, IfSome, option_map}
use Rattle.std.specs.Ordering.{is_le, is_lt}
use Rattle.inno_types.specs.{declared.value.Schema.Schema, declared.stmt.Bound.Bound, declared.stmt.Range.Range, Ranges.is_from, Ranges.is_up_to}
use Rattle.inno_db.specs.Indexes.{index_of}
use Rattle.entries.specs.{Pairs.Pair, Pairs.key_cmp, Pairs.value_of, Pairs.IsFirstOf, Pairs.NonePasses, Index.Told}
use Rattle.world.specs.State.{WorldState}
use Rattle.row_search.specs.{declared.scan.Scan.Scan, Ranges.bound_bytes, Ranges.primary_part, Steps.OnlyMoves}
use Rattle.row_locking.specs.declared.search.LockingSearch.{LockingSearch}
use Rattle.row_locking.specs.declared.bounds.Side.{Side}
use Rattle.row_locking.specs.declared.bounds.Side.TheVariants.{Before, Within, Behind}
use Rattle.row_locking.specs.Searches.{MayLock}

abbrev pub IsOnSide : Range → List ℕ → Side → Type 0
IsOnSide range key Before = is_from range.low key ≡ false
IsOnSide range key Within = (is_from range.low key ≡ true) × (is_up_to range.high key ≡ true)
IsOnSide range key Behind = is_up_to range.high key ≡ false

-- the bytes from which the next pair is sought
abbrev pub from_bytes : Bound → Option (List ℕ) → List ℕ
from_bytes low None = bound_bytes low
from_bytes low (Some passed) = passed ++ 0 ∷ []

-- the keys to which it comes yet: from the range's low bound, or above the one that it has passed
abbrev pub to_come : Scan → Option (List ℕ) → List ℕ → Bool
to_come scan None key = is_le (key_cmp (bound_bytes scan.range.low) key)
to_come scan (Some passed) key = is_lt (key_cmp passed key)

-- the first pair whose key passes, or none does
abbrev pub IsNextOf : (List ℕ → Bool) → Option Pair → List Pair → Type 0
IsNextOf passes None pairs = NonePasses passes pairs
IsNextOf passes (Some pair) pairs = IsFirstOf passes pairs pair

-- the spot's key, or none for the supremum
abbrev pub key_at : Option Pair → Option (List ℕ)
key_at place = option_map (λ (pair : Pair). pair.0) place

-- the supremum, or a record behind the range
abbrev pub LiesPast : Range → Option Pair → Type 0
LiesPast range None = Unit {0}
LiesPast range (Some pair) = IsOnSide range pair.0 Behind

-- The session has come to the first pair that it has not passed, and nothing else has changed.
pub record Meets (schema : Schema) (old met : WorldState) (search : LockingSearch) (place : Option Pair) : Type 0 where
  pub may : MayLock schema old search
  pub moves : OnlyMoves search.asker.session (index_of search.scan.table search.scan.which) old met
  pub next : Told (IsNextOf (to_come search.scan search.passed) place) (met.indexes (index_of search.scan.table search.scan.which))

-- and that lies past the range
pub record IsPast (schema : Schema) (old met : WorldState) (search : LockingSearch) (key : Option (List ℕ)) : Type 0 where
  pub place : Option Pair
  pub meets : Meets schema old met search place
  pub lies : LiesPast search.scan.range place
  pub key_is : key ≡ key_at place
  pub short : IfSome key (λ bytes. length bytes ≤ 67)

-- The clustered record of the entry was read, or there is none.
pub record Reads (schema : Schema) (old met : WorldState) (search : LockingSearch) (entry : List ℕ) (read : Option (List ℕ)) : Type 0 where
  pub may : MayLock schema old search
  pub moves : OnlyMoves search.asker.session (index_of search.scan.table search.scan.which) old met
  pub record_is : Told (λ pairs. value_of (primary_part schema entry) pairs ≡ read) (old.indexes (index_of search.scan.table 0))
