-- What a condition says of a row, in three-valued logic.
use Rattle.std.specs.Prelude.{Bool, true, false, not, ◌||◌, List, [], ◌∷◌, Option, Some, None, if◌then◌else◌}
use Rattle.std.specs.Ordering.{is_lt, is_le, is_eq, is_gt, is_ge}
use Rattle.std.specs.declared.cmp.Ordering.{Ordering}
use Rattle.inno_types.specs.declared.value.Value.{Value}
use Rattle.inno_types.specs.declared.value.Value.TheVariants as value
use Rattle.inno_types.specs.declared.value.Column.{Column}
use Rattle.inno_types.specs.declared.stmt.Comparison.{Comparison}
use Rattle.inno_types.specs.declared.stmt.Comparison.TheVariants.{Equal, NotEqual, Less, LessOrEqual, Greater, GreaterOrEqual}
use Rattle.inno_types.specs.declared.stmt.Literal.{Literal}
use Rattle.inno_types.specs.declared.stmt.Literal.TheVariants.{Null, Int, TooBig, Text}
use Rattle.inno_types.specs.declared.stmt.Operand.{Operand}
use Rattle.inno_types.specs.declared.stmt.Operand.TheVariants as operand
use Rattle.inno_types.specs.declared.stmt.Filter.{Filter}
use Rattle.inno_types.specs.declared.stmt.Filter.TheVariants.{Compare, Between, In, IsNull, Not', And', Or'}
use Rattle.inno_db.specs.declared.truth.Truth.{Truth}
use Rattle.inno_db.specs.declared.truth.Truth.TheVariants.{True, False, Unknown}
use Rattle.inno_db.specs.Database.{value_cmp}
use Rattle.inno_db.specs.Names.{column_value}

abbrev pub truth_from : Bool → Truth
truth_from true = True
truth_from false = False

abbrev pub not_of : Truth → Truth
not_of True = False
not_of False = True
not_of Unknown = Unknown

-- false where one of them is false, else unknown where one of them is unknown
abbrev pub and_of : Truth → Truth → Truth
and_of False b = False
and_of True b = b
and_of Unknown True = Unknown
and_of Unknown False = False
and_of Unknown Unknown = Unknown

-- true where one of them is true, else unknown where one of them is unknown
abbrev pub or_of : Truth → Truth → Truth
or_of True b = True
or_of False b = b
or_of Unknown True = True
or_of Unknown False = Unknown
or_of Unknown Unknown = Unknown

abbrev pub not_if : Bool → Truth → Truth
not_if true truth = not_of truth
not_if false truth = truth

abbrev pub is_true : Truth → Bool
is_true True = true
is_true False = false
is_true Unknown = false

abbrev pub is_null : Value → Bool
is_null value.Null = true
is_null (value.Int n) = false
is_null (value.Text text) = false

-- whether values that stand in this order meet a comparison
abbrev pub holds : Comparison → Ordering → Bool
holds Equal order = is_eq order
holds NotEqual order = not (is_eq order)
holds Less order = is_lt order
holds LessOrEqual order = is_le order
holds Greater order = is_gt order
holds GreaterOrEqual order = is_ge order

-- a comparison with NULL is unknown; numbers compare as numbers, texts byte by byte, a prefix first
abbrev pub compared : Comparison → Value → Value → Truth
compared comparison a b = if is_null a || is_null b then Unknown else truth_from (holds comparison (value_cmp a b))

-- the value that a literal spells; one outside 64 bits has none, and statements that compare with it are refused
abbrev pub literal_value : Literal → Value
literal_value Null = value.Null
literal_value (Int n) = value.Int n
literal_value TooBig = value.Null
literal_value (Text text) = value.Text text

abbrev pub operand_value : List Column → List Value → Operand → Value
operand_value columns row (operand.Literal literal) = literal_value literal
operand_value columns row (operand.Column name) = column_value columns row name

-- x BETWEEN low AND high is x >= low AND x <= high
abbrev pub between : Value → Literal → Literal → Truth
between v low high = and_of (compared GreaterOrEqual v (literal_value low)) (compared LessOrEqual v (literal_value high))

-- x IN (a, b, ..) is x = a OR x = b OR ..
abbrev pub is_in : Value → List Literal → Truth
is_in v [] = False
is_in v (literal ∷ literals) = or_of (compared Equal v (literal_value literal)) (is_in v literals)

-- what a condition says of a row
abbrev pub truth_of : List Column → List Value → Filter → Truth
truth_of columns row (Compare left comparison right) = compared comparison (operand_value columns row left) (operand_value columns row right)
truth_of columns row (Between column negated low high) = not_if negated (between (column_value columns row column) low high)
truth_of columns row (In column negated literals) = not_if negated (is_in (column_value columns row column) literals)
truth_of columns row (IsNull column negated) = not_if negated (truth_from (is_null (column_value columns row column)))
truth_of columns row (Not' p filter) = not_of (truth_of columns row filter)
truth_of columns row (And' p left q right) = and_of (truth_of columns row left) (truth_of columns row right)
truth_of columns row (Or' p left q right) = or_of (truth_of columns row left) (truth_of columns row right)

-- a row matches where the condition is true, and where there is none
abbrev pub matches : List Column → Option Filter → List Value → Bool
matches columns None row = true
matches columns (Some filter) row = is_true (truth_of columns row filter)
