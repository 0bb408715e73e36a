-- The values that INSERT and UPDATE store fit their columns.
use Rattle.std.proofs.Common.{◌≡◌, ap, sym, subst, refl, ℕ, zero, suc, ◌+◌, ℤ, ◌+ℤ◌, ◌-ℤ◌, ◌*ℤ◌, neg_ℤ, Bool, List, [], ◌∷◌, true, false, Option, Some, None, Result, Ok, Err, arith}
use Rattle.std.specs.Prelude.{◌&&◌, slice_get, slice_set, slice_index_or, if◌then◌else◌}
use Rattle.std.proofs.lemmas.Bool.Decides.{nat_tests}
use Rattle.inno_types.specs.declared.value.Value.{Value}
use Rattle.inno_types.specs.declared.value.Value.TheVariants.{Null, Int, Text}
use Rattle.inno_types.specs.declared.value.Kind.{Kind}
use Rattle.inno_types.specs.declared.value.Kind.TheVariants.{BigInt, VarBinary}
use Rattle.inno_types.specs.declared.value.Column.{Column}
use Rattle.inno_types.specs.declared.stmt.Literal.{Literal}
use Rattle.inno_types.specs.declared.stmt.Literal.TheVariants as literal
use Rattle.inno_types.specs.declared.stmt.Expr.{Expr}
use Rattle.inno_types.specs.declared.stmt.Expr.TheVariants as expr
use Rattle.inno_types.specs.declared.reply.SqlError.{SqlError}
use Rattle.inno_types.specs.declared.reply.SqlError.TheVariants.{IsNull, TooLong, OutOfRange}
use Rattle.inno_db.specs.declared.data_type.DataType.{DataType}
use Rattle.inno_db.specs.declared.data_type.DataType.TheVariants as type
use Rattle.inno_db.specs.Names.{column_place, column_at, value_at}
use Rattle.inno_db.specs.Expressions.{Valued, and_then, on_two, negated, in_range, is_bigint, both, literal_given, expr_value}
use Rattle.inno_db.specs.Storing.{is_too_long, unless_refused, stored, place_in_tuple, literal_at, values_from}
use Rattle.inno_db.specs.Typing.{type_of, is_same_type, literal_fits, given_fits, type_if, is_of_type, expr_fits, whole_fits, tuple_fits}
use Rattle.law_db.specs.Fitting.{IsTextOf, IsValueOf, IsRowOf}

-- a value of a type
abbrev pub OfType : DataType → Value → Type 0
OfType t Null = Unit {0}
OfType t (Int n) = t ≡ type.Number
OfType t (Text text) = t ≡ type.Text

pub ok_same : {A : Type 0} {x y : A} → ◌≡◌ {A = Result A SqlError} (Ok x) (Ok y) → x ≡ y
ok_same e = cc

pub never : {A P : Type 0} {e : SqlError} {y : A} → ◌≡◌ {A = Result A SqlError} (Err e) (Ok y) → P
never h = cc

-- what goes on from a result is an Ok only where the result is one
pub and_then-ok : {A B : Type 0} (r : Result A SqlError) (go : A → Result B SqlError) (y : B) → and_then r go ≡ Ok y → (x : A) × (r ≡ Ok x) × (go x ≡ Ok y)
and_then-ok (Ok x) go y h = (x, refl, h)
and_then-ok (Err e) go y h = never h

pub both_true : (a b : Bool) → (a && b) ≡ true → (a ≡ true) × (b ≡ true)
both_true true b h = (refl, h)
both_true false b h = cc

same_type : (a b : DataType) → is_same_type a b ≡ true → a ≡ b
same_type type.Number type.Number h = refl
same_type type.Number type.Text h = cc
same_type type.Text type.Number h = cc
same_type type.Text type.Text h = refl

number_kind : (kind : Kind) → type_of kind ≡ type.Number → kind ≡ BigInt
number_kind BigInt h = refl
number_kind (VarBinary size) h = cc

text_of_kind : (kind : Kind) (text : List ℕ) → type_of kind ≡ type.Text → is_too_long kind text ≡ false → IsTextOf kind text
text_of_kind BigInt text h short = cc
text_of_kind (VarBinary size) text h short = grind (arith, nat_tests)

-- a value of the column's type that the column takes
pub stored-fits : (column : Column) (value made : Value) → OfType (type_of column.kind) value → stored column value ≡ Ok made → IsValueOf column made
stored-fits column Null made of h =
    elim column.not_null as (λ b. column.not_null ≡ b → ◌≡◌ {A = Valued} (unless_refused (if b then Some IsNull else None) Null) (Ok made) → IsValueOf column made) [
      | true ↦ λ is e. never e
      | false ↦ λ is e. subst (IsValueOf column) (ok_same e) is
    ] refl h
stored-fits column (Int n) made of h = subst (IsValueOf column) (ok_same h) (number_kind column.kind of)
stored-fits column (Text text) made of h =
    elim (is_too_long column.kind text) as (λ b. is_too_long column.kind text ≡ b → ◌≡◌ {A = Valued} (unless_refused (if b then Some TooLong else None) (Text text)) (Ok made) → IsValueOf column made) [
      | true ↦ λ is e. never e
      | false ↦ λ is e. subst (IsValueOf column) (ok_same e) (text_of_kind column.kind text of is)
    ] refl h

-- a literal that fits as a whole value
pub given-type : (t : DataType) (l : Literal) (value : Value) → given_fits t l ≡ true → literal_given l ≡ Ok value → OfType t value
given-type t literal.Null value fits h = subst (OfType t) (ok_same h) tt
given-type t (literal.Int n) value fits h = subst (OfType t) (ok_same h) (same_type t type.Number fits)
given-type t literal.TooBig value fits h = never h
given-type t (literal.Text text) value fits h = subst (OfType t) (ok_same h) (same_type t type.Text fits)

literal-type : (t : DataType) (l : Literal) (value : Value) → literal_fits t l ≡ true → literal_given l ≡ Ok value → OfType t value
literal-type t literal.Null value fits h = subst (OfType t) (ok_same h) tt
literal-type t (literal.Int n) value fits h = subst (OfType t) (ok_same h) (same_type t type.Number fits)
literal-type t literal.TooBig value fits h = never h
literal-type t (literal.Text text) value fits h = subst (OfType t) (ok_same h) (same_type t type.Text fits)

-- the row of a tuple that fits
pub values_from-fits : (names : Option (List (List ℕ))) (tuple : List Literal) (place : ℕ) (columns : List Column) (row : List Value) → tuple_fits names tuple place columns ≡ true → values_from names tuple place columns ≡ Ok row → IsRowOf columns row
values_from-fits names tuple place [] row fits h = subst (IsRowOf []) (ok_same h) tt
values_from-fits names tuple place (column ∷ columns) row fits h =
    let l = literal_at tuple (place_in_tuple names place column) in
    let tests = both_true (given_fits (type_of column.kind) l) (tuple_fits names tuple (place + 1) columns) fits in
    let a = and_then-ok (and_then (literal_given l) (stored column)) (λ value. and_then (values_from names tuple (place + 1) columns) (λ values. Ok (value ∷ values))) row h in
    let b = and_then-ok (literal_given l) (stored column) a.0 a.1 in
    let d = and_then-ok (values_from names tuple (place + 1) columns) (λ values. Ok (a.0 ∷ values)) row a.2 in
    subst (IsRowOf (column ∷ columns)) (ok_same d.2) (
      stored-fits column b.0 a.0 (given-type (type_of column.kind) l b.0 tests.0 b.1) b.2,
      values_from-fits names tuple (place + 1) columns d.0 tests.1 d.1,
    )

value_at-fits : (columns : List Column) (row : List Value) (place : ℕ) (column : Column) → slice_get columns place ≡ Some column → IsRowOf columns row → IsValueOf column (slice_index_or row place Null)
value_at-fits [] row place column is fits = cc
value_at-fits (c ∷ columns) [] place column is fits = absurd fits
value_at-fits (c ∷ columns) (value ∷ row) zero column is fits = let same : c ≡ column = cc in subst (λ (k : Column). IsValueOf k value) same fits.0
value_at-fits (c ∷ columns) (value ∷ row) (suc place) column is fits = value_at-fits columns row place column is fits.1

text_type : (kind : Kind) (text : List ℕ) → IsTextOf kind text → type_of kind ≡ type.Text
text_type BigInt text fits = absurd fits
text_type (VarBinary size) text fits = refl

-- a value of a column is of its type
value_type : (column : Column) (value : Value) → IsValueOf column value → OfType (type_of column.kind) value
value_type column Null fits = tt
value_type column (Int n) fits = ap type_of fits
value_type column (Text text) fits = text_type column.kind text fits

column-type : (columns : List Column) (row : List Value) (t : DataType) (place : Option ℕ) → IsRowOf columns row → is_of_type t (type_if (column_at columns place)) ≡ true → OfType t (value_at row place)
column-type columns row t None fits h = tt
column-type columns row t (Some place) fits h =
    elim (slice_get columns place) as (λ o. slice_get columns place ≡ o → is_of_type t (type_if o) ≡ true → OfType t (slice_index_or row place Null)) [
      | None ↦ λ is e. cc
      | Some column ↦ λ is e. subst (λ (u : DataType). OfType u (slice_index_or row place Null)) (same_type (type_of column.kind) t e) (value_type column (slice_index_or row place Null) (value_at-fits columns row place column is fits))
    ] refl h

in_range-type : (n : ℤ) (value : Value) → in_range n ≡ Ok value → OfType type.Number value
in_range-type n value h =
    elim (is_bigint n) as (λ b. ◌≡◌ {A = Valued} (if b then Ok (Int n) else Err OutOfRange) (Ok value) → OfType type.Number value) [
      | true ↦ λ e. subst (OfType type.Number) (ok_same e) refl
      | false ↦ λ e. never e
    ] h

on_two-type : (f : ℤ → ℤ → ℤ) (a b value : Value) → on_two f a b ≡ Ok value → OfType type.Number value
on_two-type f (Int a) (Int b) value h = in_range-type (f a b) value h
on_two-type f (Int a) Null value h = subst (OfType type.Number) (ok_same h) tt
on_two-type f (Int a) (Text text) value h = subst (OfType type.Number) (ok_same h) tt
on_two-type f Null b value h = subst (OfType type.Number) (ok_same h) tt
on_two-type f (Text text) b value h = subst (OfType type.Number) (ok_same h) tt

negated-type : (a value : Value) → negated a ≡ Ok value → OfType type.Number value
negated-type (Int n) value h = in_range-type (neg_ℤ n) value h
negated-type Null value h = subst (OfType type.Number) (ok_same h) tt
negated-type (Text text) value h = subst (OfType type.Number) (ok_same h) tt

both-type : (f : ℤ → ℤ → ℤ) (left right : Valued) (value : Value) → both f left right ≡ Ok value → OfType type.Number value
both-type f left right value h =
    let a = and_then-ok left (λ x. and_then right (λ y. on_two f x y)) value h in
    let b = and_then-ok right (λ y. on_two f a.0 y) value a.2 in
    on_two-type f a.0 b.0 value b.2

-- what is computed is a number
computed : (t : DataType) (rest : Bool) (value : Value) → (is_same_type t type.Number && rest) ≡ true → OfType type.Number value → OfType t value
computed t rest value h of = subst (λ (u : DataType). OfType u value) (sym (same_type t type.Number (both_true (is_same_type t type.Number) rest h).0)) of

expr-type : (columns : List Column) (row : List Value) (t : DataType) (e : Expr) (value : Value) → IsRowOf columns row → expr_fits columns t e ≡ true → expr_value columns row e ≡ Ok value → OfType t value
expr-type columns row t (expr.Literal l) value fits typed h = literal-type t l value typed h
expr-type columns row t (expr.Column name) value fits typed h = subst (OfType t) (ok_same h) (column-type columns row t (column_place columns name) fits typed)
expr-type columns row t (expr.Negate' p e) value fits typed h =
    let a = and_then-ok (expr_value columns row e) negated value h in
    computed t (expr_fits columns t e) value typed (negated-type a.0 value a.2)
expr-type columns row t (expr.Add' p a q b) value fits typed h = computed t (expr_fits columns t a && expr_fits columns t b) value typed (both-type ◌+ℤ◌ (expr_value columns row a) (expr_value columns row b) value h)
expr-type columns row t (expr.Subtract' p a q b) value fits typed h = computed t (expr_fits columns t a && expr_fits columns t b) value typed (both-type ◌-ℤ◌ (expr_value columns row a) (expr_value columns row b) value h)
expr-type columns row t (expr.Multiply' p a q b) value fits typed h = computed t (expr_fits columns t a && expr_fits columns t b) value typed (both-type ◌*ℤ◌ (expr_value columns row a) (expr_value columns row b) value h)

-- the right side of an assignment
pub whole-type : (columns : List Column) (row : List Value) (t : DataType) (e : Expr) (value : Value) → IsRowOf columns row → whole_fits columns e (Some t) ≡ true → expr_value columns row e ≡ Ok value → OfType t value
whole-type columns row t (expr.Literal l) value fits typed h = given-type t l value typed h
whole-type columns row t (expr.Column name) value fits typed h = expr-type columns row t (expr.Column name) value fits typed h
whole-type columns row t (expr.Negate' p e) value fits typed h = expr-type columns row t (expr.Negate' p e) value fits typed h
whole-type columns row t (expr.Add' p a q b) value fits typed h = expr-type columns row t (expr.Add' p a q b) value fits typed h
whole-type columns row t (expr.Subtract' p a q b) value fits typed h = expr-type columns row t (expr.Subtract' p a q b) value fits typed h
whole-type columns row t (expr.Multiply' p a q b) value fits typed h = expr-type columns row t (expr.Multiply' p a q b) value fits typed h

-- a row whose value at a place is replaced by one that fits there
pub slice_set-fits : (columns : List Column) (row : List Value) (place : ℕ) (column : Column) (value : Value) → slice_get columns place ≡ Some column → IsRowOf columns row → IsValueOf column value → IsRowOf columns (slice_set row place value)
slice_set-fits [] row place column value is fits one = cc
slice_set-fits (c ∷ columns) [] place column value is fits one = absurd fits
slice_set-fits (c ∷ columns) (v ∷ row) zero column value is fits one = let same : column ≡ c = cc in (subst (λ (k : Column). IsValueOf k value) same one, fits.1)
slice_set-fits (c ∷ columns) (v ∷ row) (suc place) column value is fits one = (fits.0, slice_set-fits columns row place column value is fits.1 one)
