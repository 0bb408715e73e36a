-- Where a spot stands to the range of a search.
use Rattle.std.specs.Prelude.{ℕ, Bool, false, ◌&&◌, not, List, Option, None, Some, nat_eq}
use Rattle.std.specs.Cmp.Lexicographic.{pointwise}
use Rattle.inno_types.specs.declared.stmt.Bound.{Bound}
use Rattle.inno_types.specs.declared.stmt.Bound.TheVariants.{Open, With, Without}
use Rattle.inno_types.specs.declared.stmt.Range.{Range}
use Rattle.inno_types.specs.Ranges.{is_up_to}
use Rattle.inno_types.specs.Ranges.{is_within as is_key_within}

-- the spot's record lies in the range
abbrev pub is_within : Range → Option (List ℕ) → Bool
is_within range None = false
is_within range (Some key) = is_key_within range key

-- the spot is the supremum or lies past the range, which is not empty
abbrev pub is_past : Range → Option (List ℕ) → Bool
is_past range None = not range.empty
is_past range (Some key) = not range.empty && not (is_up_to range.high key)

abbrev pub includes : Bound → List ℕ → Bool
includes Open value = false
includes (With bound) value = pointwise nat_eq bound value
includes (Without bound) value = false

-- both bounds include one and the same value
abbrev pub is_single : Range → Bool
is_single range = go range.low where
  go : Bound → Bool
  go Open = false
  go (With value) = includes range.high value
  go (Without bound) = false
