-- The records of a tree page lie from its low fence on and below its high one, where it has them.
use Rattle.std.specs.Prelude.{◌≡◌, ◌≢◌, ℕ, ◌-◌, ◌<◌, List, [], length, slice_index_or, Option, Some, None}
use Rattle.std.specs.declared.cmp.Ordering.TheVariants.{Less}
use Rattle.std.specs.Ordering.{nat_cmp}
use Rattle.std.specs.Cmp.Lexicographic.{slice_cmp}
use Rattle.page_format.specs.Found.{key_cmp}

-- the low fence stands before the high one
abbrev pub DoFencesRise : Option (List ℕ) → Option (List ℕ) → Type 0
DoFencesRise None high = Unit {0}
DoFencesRise (Some low) None = Unit {0}
DoFencesRise (Some low) (Some high) = slice_cmp nat_cmp low high ≡ Less

-- the first record, if any, doesn't begin below the low fence
abbrev pub BeginsInside : Option (List ℕ) → List (List ℕ) → Type 0
BeginsInside None records = Unit {0}
BeginsInside (Some low) records = 0 < length records → key_cmp low (slice_index_or records 0 []) ≢ Less

-- the last record, if any, begins below the high fence
abbrev pub EndsInside : Option (List ℕ) → List (List ℕ) → Type 0
EndsInside None records = Unit {0}
EndsInside (Some high) records = 0 < length records → key_cmp high (slice_index_or records (length records - 1) []) ≡ Less
