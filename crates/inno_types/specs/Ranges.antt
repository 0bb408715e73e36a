-- Which keys of an index lie in a range of keys: for searches and for locks.
use Rattle.std.specs.Prelude.{ℕ, Bool, true, not, ◌&&◌, List, length, take}
use Rattle.std.specs.declared.cmp.Ordering.{Ordering}
use Rattle.std.specs.Ordering.{nat_cmp, is_lt, is_le, is_gt, is_ge}
use Rattle.std.specs.Cmp.Lexicographic.{slice_cmp}
use Rattle.inno_types.specs.declared.stmt.Bound.{Bound}
use Rattle.inno_types.specs.declared.stmt.Bound.TheVariants.{Open, With, Without}
use Rattle.inno_types.specs.declared.stmt.Range.{Range}

-- as many of the key's first bytes as the bound has, beside the bound: an entry of a secondary index goes on with the
-- primary key, which the bound does not have
abbrev pub beside : List ℕ → List ℕ → Ordering
beside key bound = slice_cmp nat_cmp (take (length bound) key) bound

abbrev pub is_from : Bound → List ℕ → Bool
is_from Open key = true
is_from (With bound) key = is_ge (beside key bound)
is_from (Without bound) key = is_gt (beside key bound)

abbrev pub is_up_to : Bound → List ℕ → Bool
is_up_to Open key = true
is_up_to (With bound) key = is_le (beside key bound)
is_up_to (Without bound) key = is_lt (beside key bound)

-- whether a key lies in a range
abbrev pub is_within : Range → List ℕ → Bool
is_within range key = not range.empty && (is_from range.low key && is_up_to range.high key)
