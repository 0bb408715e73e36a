-- The same readings, as their functions take them: one part after another.
use Rattle.std.proofs.Common.{◌≡◌, ℕ, List, [], ◌∷◌, Ok, Err, refl}
use Rattle.inno_types.specs.declared.stmt.Literal.{Literal}
use Rattle.inno_types.specs.declared.stmt.Expr.{Expr}
use Rattle.inno_types.specs.declared.stmt.Expr.TheVariants as expr
use Rattle.inno_types.specs.declared.stmt.Filter.TheVariants as filter
use Rattle.inno_types.specs.declared.stmt.Operand.{Operand}
use Rattle.inno_types.specs.declared.stmt.Operand.TheVariants as operand
use Rattle.sql_grammar.specs.declared.token.Word.TheVariants as word
use Rattle.sql_grammar.specs.declared.token.Token.{Token}
use Rattle.sql_grammar.specs.declared.token.Token.TheVariants.{Key, Bare, Quoted, Open}
use Rattle.sql_conditions.specs.Parts.{Read, ◌>>=◌, lit_at, commas_at, after_open, after_close, tuple_at}
use Rattle.sql_conditions.specs.Atoms.{oper_at, null_word_at, null_test_at}
use Rattle.sql_conditions.specs.Expressions.{expr_of, value_at}

pub tuple_in_parts : (tokens : List Token)
    → tuple_at tokens ≡ (after_open tokens >>= λ inside. commas_at lit_at inside >>= λ literals. after_close literals.1 >>= λ rest. Ok (literals.0, rest))
unfolding tuple_at
tuple_in_parts [] = refl
tuple_in_parts (Open ∷ rest) = refl
tuple_in_parts (other ∷ rest) = refl

pub null_test_in_parts : (column : List ℕ) (tokens : List Token)
    → null_test_at column tokens ≡ (null_word_at tokens >>= λ n. Ok (filter.IsNull column n.0, n.1))
unfolding null_test_at null_word_at
null_test_in_parts column [] = refl
null_test_in_parts column (Key word.Null ∷ rest) = refl
null_test_in_parts column (Key word.Not ∷ []) = refl
null_test_in_parts column (Key word.Not ∷ Key word.Null ∷ rest) = refl
null_test_in_parts column (Key word.Not ∷ other ∷ rest) = refl
null_test_in_parts column (other ∷ rest) = refl

abbrev as_operand : Literal × List Token → Read Operand
as_operand value = Ok (operand.Literal value.0, value.1)

abbrev as_expr : Literal × List Token → Read Expr
as_expr value = Ok (expr.Literal value.0, value.1)

abbrev operand_expr : Operand × List Token → Read Expr
operand_expr o = Ok (expr_of o.0, o.1)

literal_in_parts : (read : Read Literal) → (read >>= as_expr) ≡ ((read >>= as_operand) >>= operand_expr)
literal_in_parts (Ok value) = refl
literal_in_parts (Err rest) = refl

pub value_in_parts : (tokens : List Token) → value_at tokens ≡ (oper_at tokens >>= operand_expr)
unfolding value_at oper_at
value_in_parts (Bare meaning name ∷ rest) = refl
value_in_parts (Quoted name ∷ rest) = refl
value_in_parts tokens = literal_in_parts (lit_at tokens)

pub ruleset in_parts = (tuple_in_parts, null_test_in_parts, value_in_parts)
