-- The parts of a condition, and what each says of a column that it bounds.
use Rattle.std.specs.Prelude.{ℕ, true, false, List, [], ◌∷◌, ◌++◌, Option, Some, None}
use Rattle.std.specs.List.{filter_map}
use Rattle.inno_types.specs.declared.value.Value.{Value}
use Rattle.inno_types.specs.declared.value.Column.{Column}
use Rattle.inno_types.specs.declared.stmt.Comparison.{Comparison}
use Rattle.inno_types.specs.declared.stmt.Operand.{Operand}
use Rattle.inno_types.specs.declared.stmt.Operand.TheVariants as operand
use Rattle.inno_types.specs.declared.stmt.Filter.{Filter}
use Rattle.inno_types.specs.declared.stmt.Filter.TheVariants.{Compare, Between, In, IsNull, Not', And', Or'}
use Rattle.inno_db.specs.Names.{column_place}
use Rattle.inno_db.specs.Conditions.{literal_value}
use Rattle.sql_plan.specs.declared.interval.Limit.TheVariants.{With}
use Rattle.sql_plan.specs.declared.interval.Interval.{Interval}
use Rattle.sql_plan.specs.declared.part.Bounding.{Bounding}
use Rattle.sql_plan.specs.Intervals.{compared_with, turned, unless_null, values_between, values_among}

abbrev pub at_place : Option ℕ → Interval Value → Option (Bounding Value)
at_place None values = None
at_place (Some place) values = Some (record { place = place; values = values })

-- what is said of the column of this name, if it is there and is bounded
abbrev pub on_column : List Column → List ℕ → Option (Interval Value) → Option (Bounding Value)
on_column columns name None = None
on_column columns name (Some values) = at_place (column_place columns name) values

-- a column is compared with a literal that stands on either side
abbrev pub range_of_comparison : List Column → Operand → Comparison → Operand → Option (Bounding Value)
range_of_comparison columns (operand.Column name) comparison (operand.Literal literal) = on_column columns name (compared_with comparison (literal_value literal))
range_of_comparison columns (operand.Column name) comparison (operand.Column other) = None
range_of_comparison columns (operand.Literal literal) comparison (operand.Column name) = on_column columns name (compared_with (turned comparison) (literal_value literal))
range_of_comparison columns (operand.Literal literal) comparison (operand.Literal other) = None

-- the values that a part allows the column that it counts for: a comparison with a literal, BETWEEN, and IN
abbrev pub range_of_part : List Column → Filter → Option (Bounding Value)
range_of_part columns (Compare left comparison right) = range_of_comparison columns left comparison right
range_of_part columns (Between column false low high) =
    on_column columns column (Some (unless_null (literal_value low) (unless_null (literal_value high) (values_between (With (literal_value low)) (With (literal_value high))))))
range_of_part columns (Between column true low high) = None
range_of_part columns (In column false literals) = on_column columns column (Some (values_among literals))
range_of_part columns (In column true literals) = None
range_of_part columns (IsNull column negated) = None
range_of_part columns (Not' p filter) = None
range_of_part columns (And' p left q right) = None
range_of_part columns (Or' p left q right) = None

-- the parts of the topmost AND, in the order of the text; a condition with OR or NOT at the top is one part
abbrev pub parts_of : Filter → List Filter
parts_of (And' p left q right) = parts_of left ++ parts_of right
parts_of (Compare left comparison right) = Compare left comparison right ∷ []
parts_of (Between column negated low high) = Between column negated low high ∷ []
parts_of (In column negated literals) = In column negated literals ∷ []
parts_of (IsNull column negated) = IsNull column negated ∷ []
parts_of (Not' p filter) = Not' p filter ∷ []
parts_of (Or' p left q right) = Or' p left q right ∷ []

-- what the parts say of the columns that they bound
abbrev pub ranges_of : List Column → Filter → List (Bounding Value)
ranges_of columns filter = filter_map (range_of_part columns) (parts_of filter)

-- the two sides of an AND
abbrev pub sides_of : Filter → Option (Filter × Filter)
sides_of (And' p left q right) = Some (left, right)
sides_of (Compare left comparison right) = None
sides_of (Between column negated low high) = None
sides_of (In column negated literals) = None
sides_of (IsNull column negated) = None
sides_of (Not' p filter) = None
sides_of (Or' p left q right) = None
