-- Where keys of an index lie: beside the bounds of a range, and beside the key that a search has come to.
use Rattle.std.specs.Prelude.{◌≡◌, ℕ, ◌-◌, Bool, true, false, ◌&&◌, List, [], length, drop}
use Rattle.std.specs.Ordering.{is_le, is_lt}
use Rattle.inno_types.specs.{declared.value.Value.Value, declared.value.Schema.Schema, declared.stmt.Bound.Bound, declared.stmt.Bound.TheVariants.Open}
use Rattle.inno_types.specs.{declared.stmt.Bound.TheVariants.With, declared.stmt.Bound.TheVariants.Without, declared.stmt.Range.Range, Ranges.is_from}
use Rattle.inno_types.specs.{Ranges.is_up_to, Ranges.is_within}
use Rattle.key_codec.specs.Keys.{key_width}
use Rattle.entries.specs.Pairs.{key_cmp}
use Rattle.sql_plan.specs.Visits.{index_key, kind_at}
use Rattle.row_search.specs.{declared.side.Side.Side, declared.side.Side.TheVariants.Before, declared.side.Side.TheVariants.Within}
use Rattle.row_search.specs.{declared.side.Side.TheVariants.Behind, declared.scan.Scan.Scan}

-- the bytes at which a walk from this bound begins
abbrev pub bound_bytes : Bound → List ℕ
bound_bytes Open = []
bound_bytes (With bytes) = bytes
bound_bytes (Without bytes) = bytes

abbrev pub IsOnSide : Range → List ℕ → Side → Type 0
IsOnSide range key Before = is_from range.low key ≡ false
IsOnSide range key Within = (is_from range.low key ≡ true) × (is_up_to range.high key ≡ true)
IsOnSide range key Behind = is_up_to range.high key ≡ false

-- a key of an index ends in the primary key of its row
abbrev pub primary_part : Schema → List ℕ → List ℕ
primary_part schema key = drop (length key - key_width (kind_at schema.columns schema.primary)) key

-- the row's key in the searched index lies in the range
abbrev pub lies_in : Schema → Scan → List Value → Bool
lies_in schema scan row = is_within scan.range (index_key schema scan.which row)

-- and at or below this one
abbrev pub lies_up_to : Schema → Scan → List ℕ → List Value → Bool
lies_up_to schema scan key row = lies_in schema scan row && is_le (key_cmp (index_key schema scan.which row) key)

abbrev pub lies_below : Schema → Scan → List ℕ → List Value → Bool
lies_below schema scan key row = lies_in schema scan row && is_lt (key_cmp (index_key schema scan.which row) key)
