-- Places in an index: a record, or the supremum behind the last one.
use Rattle.std.specs.Prelude.{ℕ, Bool, true, false, ◌==◌, ◌&&◌, List, Option, None, Some, nat_eq}
use Rattle.std.specs.Cmp.Lexicographic.{pointwise}
use Rattle.inno_types.specs.declared.lock.Spot.{Spot}

abbrev pub same_key : Option (List ℕ) → Option (List ℕ) → Bool
same_key None None = true
same_key None (Some key) = false
same_key (Some key) None = false
same_key (Some key) (Some other) = pointwise nat_eq key other

abbrev pub same_spot : Spot → Spot → Bool
same_spot spot other = spot.index == other.index && same_key spot.key other.key
