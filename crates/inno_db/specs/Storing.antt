-- What rows INSERT and UPDATE make of the values that they are given.
use Rattle.std.specs.Prelude.{ℕ, ◌+◌, Bool, false, List, [], ◌∷◌, Option, Some, None, Result, Ok, Err, nat_lt, length, if◌then◌else◌, slice_get, slice_set, slice_index_or}
use Rattle.inno_types.specs.declared.value.Value.{Value}
use Rattle.inno_types.specs.declared.value.Value.TheVariants.{Null, Int, Text}
use Rattle.inno_types.specs.declared.value.Kind.{Kind}
use Rattle.inno_types.specs.declared.value.Kind.TheVariants.{BigInt, VarBinary}
use Rattle.inno_types.specs.declared.value.Column.{Column}
use Rattle.inno_types.specs.declared.stmt.Literal.{Literal}
use Rattle.inno_types.specs.declared.stmt.Literal.TheVariants as literal
use Rattle.inno_types.specs.declared.stmt.Set.{Set}
use Rattle.inno_types.specs.declared.reply.SqlError.{SqlError}
use Rattle.inno_types.specs.declared.reply.SqlError.TheVariants.{IsNull, TooLong}
use Rattle.inno_db.specs.Names.{column_place, name_place}
use Rattle.inno_db.specs.Expressions.{Valued, and_then, literal_given, expr_value}

abbrev pub is_too_long : Kind → List ℕ → Bool
is_too_long BigInt text = false
is_too_long (VarBinary size) text = nat_lt size (length text)

-- why a column does not take a value: NULL where it is NOT NULL, or a text that is longer than it
abbrev pub misfit : Column → Value → Option SqlError
misfit column Null = if column.not_null then Some IsNull else None
misfit column (Int n) = None
misfit column (Text text) = if is_too_long column.kind text then Some TooLong else None

abbrev pub unless_refused : Option SqlError → Value → Valued
unless_refused None value = Ok value
unless_refused (Some error) value = Err error

abbrev pub stored : Column → Value → Valued
stored column value = unless_refused (misfit column value) value

-- a row whose value at a place is replaced, if the column there takes the new one
abbrev pub put_in : Option Column → ℕ → List Value → Value → Result (List Value) SqlError
put_in None place row value = Ok row
put_in (Some column) place row value = and_then (stored column value) (λ v. Ok (slice_set row place v))

abbrev pub put_at : List Column → List Value → Option ℕ → Value → Result (List Value) SqlError
put_at columns row None value = Ok row
put_at columns row (Some place) value = put_in (slice_get columns place) place row value

-- a row after an assignment
abbrev pub assigned : List Column → List Value → Set → Result (List Value) SqlError
assigned columns row set = and_then (expr_value columns row set.value) (put_at columns row (column_place columns set.column))

-- a row after several, from left to right: each sees what the earlier ones made
abbrev pub all_assigned : List Column → List Value → List Set → Result (List Value) SqlError
all_assigned columns row [] = Ok row
all_assigned columns row (set ∷ sets) = and_then (assigned columns row set) (λ after. all_assigned columns after sets)

-- where in a tuple the value of a column stands: at the place of its name in INSERT's list of columns,
-- or without a list at the column's own place
abbrev pub place_in_tuple : Option (List (List ℕ)) → ℕ → Column → Option ℕ
place_in_tuple None place column = Some place
place_in_tuple (Some names) place column = name_place names column.name

-- a column that the list leaves out is given NULL
abbrev pub literal_at : List Literal → Option ℕ → Literal
literal_at tuple None = literal.Null
literal_at tuple (Some place) = slice_index_or tuple place literal.Null

-- the values for the columns from a place on, or the first column's refusal
abbrev pub values_from : Option (List (List ℕ)) → List Literal → ℕ → List Column → Result (List Value) SqlError
values_from names tuple place [] = Ok []
values_from names tuple place (column ∷ columns) =
    and_then (and_then (literal_given (literal_at tuple (place_in_tuple names place column))) (stored column))
    (λ value. and_then (values_from names tuple (place + 1) columns) (λ values. Ok (value ∷ values)))

-- the row of a tuple
abbrev pub row_of_tuple : List Column → Option (List (List ℕ)) → List Literal → Result (List Value) SqlError
row_of_tuple columns names tuple = values_from names tuple 0 columns
