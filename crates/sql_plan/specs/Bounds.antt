-- The bytes of a range: its limits as keys of an index.
use Rattle.std.specs.Prelude.{ℕ, ◌==◌, List, [], ◌∷◌, ◌++◌, take, if◌then◌else◌}
use Rattle.inno_types.specs.declared.value.Value.{Value}
use Rattle.inno_types.specs.declared.value.Value.TheVariants.{Null, Int, Text}
use Rattle.inno_types.specs.declared.value.Kind.{Kind}
use Rattle.inno_types.specs.declared.value.Kind.TheVariants.{BigInt, VarBinary}
use Rattle.inno_types.specs.declared.stmt.Bound.{Bound}
use Rattle.inno_types.specs.declared.stmt.Bound.TheVariants as bound
use Rattle.inno_types.specs.declared.stmt.Range.{Range}
use Rattle.inno_db.specs.Storing.{is_too_long}
use Rattle.key_codec.specs.Keys.{Has64Bits, key_code, entry_front}
use Rattle.sql_plan.specs.declared.interval.Limit.{Limit}
use Rattle.sql_plan.specs.declared.interval.Limit.TheVariants.{Open, With, Without}
use Rattle.sql_plan.specs.declared.interval.Interval.{Interval}
use Rattle.sql_plan.specs.Intervals.{is_empty}

-- a value's key; a text longer than its column has none, and its first bytes with a length above all of the column's
-- texts lie where it would stand among them
abbrev pub value_bytes : Kind → Value → List ℕ
value_bytes BigInt Null = []
value_bytes BigInt (Int n) = key_code BigInt (Int n)
value_bytes BigInt (Text text) = []
value_bytes (VarBinary size) Null = []
value_bytes (VarBinary size) (Int n) = []
value_bytes (VarBinary size) (Text text) = if is_too_long (VarBinary size) text then take size text ++ 255 ∷ [] else key_code (VarBinary size) (Text text)

-- in a secondary index a 1 stands before the key of a value, and a 0 before that of NULL
abbrev pub front_of : ℕ → List ℕ
front_of which = if which == 0 then [] else 1 ∷ []

abbrev pub bound_bytes : ℕ → Kind → Value → List ℕ
bound_bytes which kind v = front_of which ++ value_bytes kind v

abbrev pub null_bytes : Kind → List ℕ
null_bytes kind = entry_front kind Null

-- in a secondary index NULLs lie before all other values, and in no range
abbrev pub low_bound : ℕ → Kind → Limit Value → Bound
low_bound which kind Open = if which == 0 then bound.Open else bound.Without (null_bytes kind)
low_bound which kind (With v) = bound.With (bound_bytes which kind v)
low_bound which kind (Without v) = bound.Without (bound_bytes which kind v)

abbrev pub high_bound : ℕ → Kind → Limit Value → Bound
high_bound which kind Open = bound.Open
high_bound which kind (With v) = bound.With (bound_bytes which kind v)
high_bound which kind (Without v) = bound.Without (bound_bytes which kind v)

-- the range of these values in the index of this number
abbrev pub range_of : ℕ → Kind → Interval Value → Range
range_of which kind values =
    record { empty = is_empty values; low = low_bound which kind values.low; high = high_bound which kind values.high }

-- a number at a limit has 64 bits
abbrev pub HasSize : Limit Value → Type 0
HasSize Open = Unit {0}
HasSize (With v) = Has64Bits v
HasSize (Without v) = Has64Bits v

abbrev pub HaveSize : Interval Value → Type 0
HaveSize values = HasSize values.low × HasSize values.high
