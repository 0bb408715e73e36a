-- Intervals of values: what a comparison allows, and where intervals meet.
use Rattle.std.specs.Prelude.{Bool, true, false, not, ◌&&◌, ◌||◌, List, [], ◌∷◌, Option, Some, None, if◌then◌else◌}
use Rattle.std.specs.Ordering.{is_lt, is_le, is_eq, is_gt, is_ge}
use Rattle.inno_types.specs.declared.value.Value.{Value}
use Rattle.inno_types.specs.declared.stmt.Comparison.{Comparison}
use Rattle.inno_types.specs.declared.stmt.Comparison.TheVariants.{Equal, NotEqual, Less, LessOrEqual, Greater, GreaterOrEqual}
use Rattle.inno_types.specs.declared.stmt.Literal.{Literal}
use Rattle.inno_db.specs.Database.{value_cmp}
use Rattle.inno_db.specs.Conditions.{is_null, literal_value}
use Rattle.sql_plan.specs.declared.interval.Limit.{Limit}
use Rattle.sql_plan.specs.declared.interval.Limit.TheVariants.{Open, With, Without}
use Rattle.sql_plan.specs.declared.interval.Interval.{Interval}

-- all values but NULL
abbrev pub whole : Interval Value
whole = record { none = false; low = Open; high = Open }

abbrev pub nothing : Interval Value
nothing = record { none = true; low = Open; high = Open }

abbrev pub values_between : Limit Value → Limit Value → Interval Value
values_between low high = record { none = false; low = low; high = high }

-- a comparison with NULL is true of no value
abbrev pub unless_null : Value → Interval Value → Interval Value
unless_null v values = if is_null v then nothing else values

-- the values that compare so with v; <> bounds nothing
abbrev pub compared_with : Comparison → Value → Option (Interval Value)
compared_with Equal v = Some (unless_null v (values_between (With v) (With v)))
compared_with NotEqual v = None
compared_with Less v = Some (unless_null v (values_between Open (Without v)))
compared_with LessOrEqual v = Some (unless_null v (values_between Open (With v)))
compared_with Greater v = Some (unless_null v (values_between (Without v) Open))
compared_with GreaterOrEqual v = Some (unless_null v (values_between (With v) Open))

-- the same comparison with its sides exchanged
abbrev pub turned : Comparison → Comparison
turned Equal = Equal
turned NotEqual = NotEqual
turned Less = Greater
turned LessOrEqual = GreaterOrEqual
turned Greater = Less
turned GreaterOrEqual = LessOrEqual

-- whether a low limit stands above another: at a greater value, or at the same one, which it alone leaves out
abbrev pub is_above : Limit Value → Limit Value → Bool
is_above Open b = false
is_above (With v) Open = true
is_above (With v) (With w) = is_gt (value_cmp v w)
is_above (With v) (Without w) = is_gt (value_cmp v w)
is_above (Without v) Open = true
is_above (Without v) (With w) = is_ge (value_cmp v w)
is_above (Without v) (Without w) = is_gt (value_cmp v w)

-- whether a high limit stands below another
abbrev pub is_below : Limit Value → Limit Value → Bool
is_below Open b = false
is_below (With v) Open = true
is_below (With v) (With w) = is_lt (value_cmp v w)
is_below (With v) (Without w) = is_lt (value_cmp v w)
is_below (Without v) Open = true
is_below (Without v) (With w) = is_le (value_cmp v w)
is_below (Without v) (Without w) = is_lt (value_cmp v w)

abbrev pub higher : Limit Value → Limit Value → Limit Value
higher a b = if is_above a b then a else b

abbrev pub lower : Limit Value → Limit Value → Limit Value
lower a b = if is_below a b then a else b

-- the values of both intervals
abbrev pub meet : Interval Value → Interval Value → Interval Value
meet a b = record { none = a.none || b.none; low = higher a.low b.low; high = lower a.high b.high }

-- whether a value keeps to a low limit, and to a high one
abbrev pub is_over : Limit Value → Value → Bool
is_over Open v = true
is_over (With w) v = is_ge (value_cmp v w)
is_over (Without w) v = is_gt (value_cmp v w)

abbrev pub is_under : Limit Value → Value → Bool
is_under Open v = true
is_under (With w) v = is_le (value_cmp v w)
is_under (Without w) v = is_lt (value_cmp v w)

-- whether a value lies in an interval; NULL lies in none
abbrev pub contains : Interval Value → Value → Bool
contains values v = not (is_null v || values.none) && (is_over values.low v && is_under values.high v)

-- whether the low limit stands above the high one, or both at one value that one of them leaves out
abbrev pub is_crossed : Limit Value → Limit Value → Bool
is_crossed Open high = false
is_crossed (With v) Open = false
is_crossed (With v) (With w) = is_gt (value_cmp v w)
is_crossed (With v) (Without w) = is_ge (value_cmp v w)
is_crossed (Without v) Open = false
is_crossed (Without v) (With w) = is_ge (value_cmp v w)
is_crossed (Without v) (Without w) = is_ge (value_cmp v w)

abbrev pub is_empty : Interval Value → Bool
is_empty values = values.none || is_crossed values.low values.high

-- whether both limits include one and the same value
abbrev pub is_one : Limit Value → Limit Value → Bool
is_one Open high = false
is_one (With v) Open = false
is_one (With v) (With w) = is_eq (value_cmp v w)
is_one (With v) (Without w) = false
is_one (Without v) high = false

abbrev pub is_single : Interval Value → Bool
is_single values = not values.none && is_one values.low values.high

abbrev pub is_less : Value → Value → Bool
is_less v w = is_lt (value_cmp v w)

abbrev pub is_greater : Value → Value → Bool
is_greater v w = is_gt (value_cmp v w)

-- the one of two values that goes before the other; the first may be missing
abbrev pub former : (Value → Value → Bool) → Option Value → Value → Value
former before None v = v
former before (Some m) v = if before v m then v else m

-- the one of a value, which may be missing, and some literals that goes before all others; NULLs are left out
abbrev pub first_of_all : (Value → Value → Bool) → Option Value → List Literal → Option Value
first_of_all before m [] = m
first_of_all before m (literal ∷ literals) =
    first_of_all before (if is_null (literal_value literal) then m else Some (former before m (literal_value literal))) literals

abbrev pub least : List Literal → Option Value
least literals = first_of_all is_less None literals

abbrev pub greatest : List Literal → Option Value
greatest literals = first_of_all is_greater None literals

abbrev pub from_to : Option Value → Option Value → Interval Value
from_to None high = nothing
from_to (Some low) None = nothing
from_to (Some low) (Some high) = values_between (With low) (With high)

-- from the least of some literals to the greatest, NULLs left out; none where no value is left
abbrev pub values_among : List Literal → Interval Value
values_among literals = from_to (least literals) (greatest literals)
