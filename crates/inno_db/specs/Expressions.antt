-- The value of an expression on a row, or why there is none.
use Rattle.std.specs.Prelude.{◌^◌, Bool, List, Result, Ok, Err, ℤ, pos, negsuc, ◌+ℤ◌, ◌-ℤ◌, ◌*ℤ◌, neg_ℤ, nat_lt, if◌then◌else◌}
use Rattle.inno_types.specs.declared.value.Value.{Value}
use Rattle.inno_types.specs.declared.value.Value.TheVariants.{Null, Int, Text}
use Rattle.inno_types.specs.declared.value.Column.{Column}
use Rattle.inno_types.specs.declared.stmt.Literal.{Literal}
use Rattle.inno_types.specs.declared.stmt.Literal.TheVariants as literal
use Rattle.inno_types.specs.declared.stmt.Expr.{Expr}
use Rattle.inno_types.specs.declared.stmt.Expr.TheVariants as expr
use Rattle.inno_types.specs.declared.reply.SqlError.{SqlError}
use Rattle.inno_types.specs.declared.reply.SqlError.TheVariants.{OutOfRange, TooBig}
use Rattle.inno_db.specs.Names.{column_value}

-- a value, or a refusal
abbrev pub Valued : Type 0
Valued = Result Value SqlError

-- whether a number is a BIGINT: from -2^63 to 2^63 - 1
abbrev pub is_bigint : ℤ → Bool
is_bigint (pos n) = nat_lt n (2 ^ 63)
is_bigint (negsuc n) = nat_lt n (2 ^ 63)

-- the result of an operation, or 1690 where it is no BIGINT
abbrev pub in_range : ℤ → Valued
in_range n = if is_bigint n then Ok (Int n) else Err OutOfRange

-- NULL with anything is NULL; texts are refused by their type before any row is taken
abbrev pub on_two : (ℤ → ℤ → ℤ) → Value → Value → Valued
on_two f (Int a) (Int b) = in_range (f a b)
on_two f (Int a) Null = Ok Null
on_two f (Int a) (Text text) = Ok Null
on_two f Null b = Ok Null
on_two f (Text text) b = Ok Null

abbrev pub negated : Value → Valued
negated (Int n) = in_range (neg_ℤ n)
negated Null = Ok Null
negated (Text text) = Ok Null

-- goes on with a value, unless it is refused
abbrev pub and_then : {A B : Type 0} → Result A SqlError → (A → Result B SqlError) → Result B SqlError
and_then (Ok value) go = go value
and_then (Err error) go = Err error

-- an operation on two sides, of which the left one is refused first
abbrev pub both : (ℤ → ℤ → ℤ) → Valued → Valued → Valued
both f left right = and_then left (λ a. and_then right (λ b. on_two f a b))

-- a literal outside 64 bits is refused with 1264 when its row is taken
abbrev pub literal_given : Literal → Valued
literal_given literal.Null = Ok Null
literal_given (literal.Int n) = Ok (Int n)
literal_given literal.TooBig = Err TooBig
literal_given (literal.Text text) = Ok (Text text)

abbrev pub expr_value : List Column → List Value → Expr → Valued
expr_value columns row (expr.Literal l) = literal_given l
expr_value columns row (expr.Column name) = Ok (column_value columns row name)
expr_value columns row (expr.Negate' p e) = and_then (expr_value columns row e) negated
expr_value columns row (expr.Add' p a q b) = both ◌+ℤ◌ (expr_value columns row a) (expr_value columns row b)
expr_value columns row (expr.Subtract' p a q b) = both ◌-ℤ◌ (expr_value columns row a) (expr_value columns row b)
expr_value columns row (expr.Multiply' p a q b) = both ◌*ℤ◌ (expr_value columns row a) (expr_value columns row b)
