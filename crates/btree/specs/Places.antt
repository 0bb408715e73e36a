-- Which keys pass in a search, and where the first record stands whose key does.
use Rattle.std.specs.Prelude.{◌≡◌, ℕ, ◌<◌, ◌≤◌, Bool, true, false, List, [], length, take, slice_index_or}
use Rattle.std.specs.Ordering.{is_le, is_lt}
use Rattle.std.specs.List.{AllByRecursion}
use Rattle.entries.specs.Pairs.{key_cmp}
use Rattle.btree.specs.declared.tree.Bound.{Bound}
use Rattle.btree.specs.declared.tree.Bound.TheVariants.{AtOrAbove, Above}

-- whether a search for the first key at or above this one, or above it, stops at the other
abbrev pub passes : Bound → List ℕ → List ℕ → Bool
passes AtOrAbove key other = is_le (key_cmp key other)
passes Above key other = is_lt (key_cmp key other)

-- the same of the key that a record begins with
abbrev pub record_passes : ℕ → Bound → List ℕ → List ℕ → Bool
record_passes key_len bound key record' = passes bound key (take key_len record')

-- The place is in range or at the end: no record before it passes, and the one there does, if there is one.
pub record StartsAt (test : List ℕ → Bool) (records : List (List ℕ)) (i : ℕ) : Type 0 where
  pub within : i ≤ length records
  pub before : AllByRecursion (λ r. test r ≡ false) (take i records)
  pub here : i < length records → test (slice_index_or records i []) ≡ true
