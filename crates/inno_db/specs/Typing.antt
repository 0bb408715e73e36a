-- Which columns a statement names, and whether the types of its values agree.
use Rattle.std.specs.Prelude.{ℕ, ◌+◌, Bool, true, false, not, ◌&&◌, ◌||◌, ◌==◌, List, [], ◌∷◌, Option, Some, None, is_some}
use Rattle.std.specs.List.{list_all}
use Rattle.inno_types.specs.declared.value.Kind.{Kind}
use Rattle.inno_types.specs.declared.value.Kind.TheVariants.{BigInt, VarBinary}
use Rattle.inno_types.specs.declared.value.Column.{Column}
use Rattle.inno_types.specs.declared.value.Schema.{Schema}
use Rattle.inno_types.specs.declared.stmt.Literal.{Literal}
use Rattle.inno_types.specs.declared.stmt.Literal.TheVariants as literal
use Rattle.inno_types.specs.declared.stmt.Operand.{Operand}
use Rattle.inno_types.specs.declared.stmt.Operand.TheVariants as operand
use Rattle.inno_types.specs.declared.stmt.Expr.{Expr}
use Rattle.inno_types.specs.declared.stmt.Expr.TheVariants as expr
use Rattle.inno_types.specs.declared.stmt.Filter.{Filter}
use Rattle.inno_types.specs.declared.stmt.Filter.TheVariants.{Compare, Between, In, IsNull, Not', And', Or'}
use Rattle.inno_types.specs.declared.stmt.Set.{Set}
use Rattle.inno_db.specs.declared.data_type.DataType.{DataType}
use Rattle.inno_db.specs.declared.data_type.DataType.TheVariants.{Number, Text}
use Rattle.inno_db.specs.Names.{column_at, column_place}
use Rattle.inno_db.specs.Storing.{place_in_tuple, literal_at}

-- whether a column of this name is there
abbrev pub is_known : List Column → List ℕ → Bool
is_known columns name = is_some (column_place columns name)

abbrev pub operand_known : List Column → Operand → Bool
operand_known columns (operand.Literal l) = true
operand_known columns (operand.Column name) = is_known columns name

abbrev pub filter_known : List Column → Filter → Bool
filter_known columns (Compare left comparison right) = operand_known columns left && operand_known columns right
filter_known columns (Between column negated low high) = is_known columns column
filter_known columns (In column negated literals) = is_known columns column
filter_known columns (IsNull column negated) = is_known columns column
filter_known columns (Not' p filter) = filter_known columns filter
filter_known columns (And' p left q right) = filter_known columns left && filter_known columns right
filter_known columns (Or' p left q right) = filter_known columns left && filter_known columns right

abbrev pub where_known : List Column → Option Filter → Bool
where_known columns None = true
where_known columns (Some filter) = filter_known columns filter

abbrev pub expr_known : List Column → Expr → Bool
expr_known columns (expr.Literal l) = true
expr_known columns (expr.Column name) = is_known columns name
expr_known columns (expr.Negate' p e) = expr_known columns e
expr_known columns (expr.Add' p a q b) = expr_known columns a && expr_known columns b
expr_known columns (expr.Subtract' p a q b) = expr_known columns a && expr_known columns b
expr_known columns (expr.Multiply' p a q b) = expr_known columns a && expr_known columns b

abbrev pub set_known : List Column → Set → Bool
set_known columns set = is_known columns set.column && expr_known columns set.value

abbrev pub type_of : Kind → DataType
type_of BigInt = Number
type_of (VarBinary size) = Text

abbrev pub is_same_type : DataType → DataType → Bool
is_same_type Number Number = true
is_same_type Number Text = false
is_same_type Text Number = false
is_same_type Text Text = true

-- NULL is of any type; a number outside 64 bits is refused where it is compared or computed with
abbrev pub literal_fits : DataType → Literal → Bool
literal_fits type literal.Null = true
literal_fits type (literal.Int n) = is_same_type type Number
literal_fits type literal.TooBig = false
literal_fits type (literal.Text text) = is_same_type type Text

-- as a whole value such a number is of the type, and is refused when its row is taken
abbrev pub given_fits : DataType → Literal → Bool
given_fits type literal.Null = true
given_fits type (literal.Int n) = is_same_type type Number
given_fits type literal.TooBig = is_same_type type Number
given_fits type (literal.Text text) = is_same_type type Text

abbrev pub type_if : Option Column → Option DataType
type_if None = None
type_if (Some column) = Some (type_of column.kind)

-- the type of the column of this name, if there is one
abbrev pub column_type : List Column → List ℕ → Option DataType
column_type columns name = type_if (column_at columns (column_place columns name))

abbrev pub is_of_type : DataType → Option DataType → Bool
is_of_type type None = false
is_of_type type (Some t) = is_same_type t type

abbrev pub all_fit : List Literal → Option DataType → Bool
all_fit literals None = false
all_fit literals (Some type) = list_all (literal_fits type) literals

abbrev pub operand_fits : List Column → DataType → Operand → Bool
operand_fits columns type (operand.Literal l) = literal_fits type l
operand_fits columns type (operand.Column name) = is_of_type type (column_type columns name)

-- the two sides of a comparison are numbers, or they are texts
abbrev pub sides_fit : List Column → Operand → Operand → Bool
sides_fit columns left right =
    (operand_fits columns Number left && operand_fits columns Number right)
    || (operand_fits columns Text left && operand_fits columns Text right)

-- each comparison of a condition is of operands of one type
abbrev pub filter_fits : List Column → Filter → Bool
filter_fits columns (Compare left comparison right) = sides_fit columns left right
filter_fits columns (Between column negated low high) = all_fit (low ∷ high ∷ []) (column_type columns column)
filter_fits columns (In column negated literals) = all_fit literals (column_type columns column)
filter_fits columns (IsNull column negated) = true
filter_fits columns (Not' p filter) = filter_fits columns filter
filter_fits columns (And' p left q right) = filter_fits columns left && filter_fits columns right
filter_fits columns (Or' p left q right) = filter_fits columns left && filter_fits columns right

abbrev pub where_fits : List Column → Option Filter → Bool
where_fits columns None = true
where_fits columns (Some filter) = filter_fits columns filter

-- an expression of the type; what is computed is a number, of numbers
abbrev pub expr_fits : List Column → DataType → Expr → Bool
expr_fits columns type (expr.Literal l) = literal_fits type l
expr_fits columns type (expr.Column name) = is_of_type type (column_type columns name)
expr_fits columns type (expr.Negate' p e) = is_same_type type Number && expr_fits columns type e
expr_fits columns type (expr.Add' p a q b) = is_same_type type Number && (expr_fits columns type a && expr_fits columns type b)
expr_fits columns type (expr.Subtract' p a q b) = is_same_type type Number && (expr_fits columns type a && expr_fits columns type b)
expr_fits columns type (expr.Multiply' p a q b) = is_same_type type Number && (expr_fits columns type a && expr_fits columns type b)

-- the whole right side of an assignment
abbrev pub whole_fits : List Column → Expr → Option DataType → Bool
whole_fits columns e None = false
whole_fits columns (expr.Literal l) (Some type) = given_fits type l
whole_fits columns (expr.Column name) (Some type) = expr_fits columns type (expr.Column name)
whole_fits columns (expr.Negate' p e) (Some type) = expr_fits columns type (expr.Negate' p e)
whole_fits columns (expr.Add' p a q b) (Some type) = expr_fits columns type (expr.Add' p a q b)
whole_fits columns (expr.Subtract' p a q b) (Some type) = expr_fits columns type (expr.Subtract' p a q b)
whole_fits columns (expr.Multiply' p a q b) (Some type) = expr_fits columns type (expr.Multiply' p a q b)

-- whether a place is that of the primary key
abbrev pub is_primary : ℕ → Option ℕ → Bool
is_primary primary None = false
is_primary primary (Some place) = place == primary

-- an assignment of a value of the column's type, to another column than the primary key
abbrev pub set_fits : Schema → Set → Bool
set_fits schema set =
    not (is_primary schema.primary (column_place schema.columns set.column))
    && whole_fits schema.columns set.value (column_type schema.columns set.column)

-- the values of a tuple are of the types of their columns, from the column at a place on
abbrev pub tuple_fits : Option (List (List ℕ)) → List Literal → ℕ → List Column → Bool
tuple_fits names tuple place [] = true
tuple_fits names tuple place (column ∷ columns) =
    given_fits (type_of column.kind) (literal_at tuple (place_in_tuple names place column)) && tuple_fits names tuple (place + 1) columns
