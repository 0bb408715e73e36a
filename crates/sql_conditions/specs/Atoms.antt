-- Reading one comparison or test of a condition from left to right.
use Rattle.std.specs.Prelude.{ℕ, List, ◌∷◌, Bool, true, false, Result, Ok, Err}
use Rattle.inno_types.specs.declared.stmt.Operand.{Operand}
use Rattle.inno_types.specs.declared.stmt.Operand.TheVariants as operand
use Rattle.inno_types.specs.declared.stmt.Filter.{Filter}
use Rattle.inno_types.specs.declared.stmt.Filter.TheVariants as filter
use Rattle.sql_grammar.specs.declared.token.Word.TheVariants as word
use Rattle.sql_grammar.specs.declared.token.Token.{Token}
use Rattle.sql_grammar.specs.declared.token.Token.TheVariants.{Key, Bare, Quoted, Compare}
use Rattle.sql_conditions.specs.Parts.{Read, ◌>>=◌, lit_at, tuple_at}

unfoldable pub oper_at : List Token → Read Operand
oper_at (Bare meaning name ∷ rest) = Ok (operand.Column name, rest)
oper_at (Quoted name ∷ rest) = Ok (operand.Column name, rest)
oper_at tokens = lit_at tokens >>= λ value. Ok (operand.Literal value.0, value.1)

abbrev pub after_and : List Token → Result (List Token) (List Token)
after_and (Key word.And ∷ rest) = Ok rest
after_and rest = Err rest

abbrev pub after_null : List Token → Result (List Token) (List Token)
after_null (Key word.Null ∷ rest) = Ok rest
after_null rest = Err rest

unfoldable pub between_at : List ℕ → Bool → List Token → Read Filter
between_at column negated tokens = do
  low ← lit_at tokens
  rest ← after_and low.1
  high ← lit_at rest
  Ok (filter.Between column negated low.0 high.0, high.1)

abbrev pub among_at : List ℕ → Bool → List Token → Read Filter
among_at column negated tokens = tuple_at tokens >>= λ literals. Ok (filter.In column negated literals.0, literals.1)

unfoldable pub range_test_at : List ℕ → Bool → List Token → Read Filter
range_test_at column negated (Key word.Between ∷ rest) = between_at column negated rest
range_test_at column negated (Key word.In ∷ rest) = tuple_at rest >>= λ literals. Ok (filter.In column negated literals.0, literals.1)
range_test_at column negated rest = Err rest

abbrev pub null_behind : Bool → List Token → Read Bool
null_behind negated (Key word.Null ∷ rest) = Ok (negated, rest)
null_behind negated rest = Err rest

-- NULL, and whether NOT stands before it
unfoldable pub null_word_at : List Token → Read Bool
null_word_at (Key word.Not ∷ rest) = null_behind true rest
null_word_at rest = null_behind false rest

unfoldable pub null_test_at : List ℕ → List Token → Read Filter
null_test_at column (Key word.Null ∷ rest) = Ok (filter.IsNull column false, rest)
null_test_at column (Key word.Not ∷ rest) = after_null rest >>= λ r. Ok (filter.IsNull column true, r)
null_test_at column rest = Err rest

unfoldable pub column_test_at : List ℕ → List Token → Read Filter
column_test_at column (Key word.Not ∷ rest) = range_test_at column true rest
column_test_at column (Key word.Is ∷ rest) = null_test_at column rest
column_test_at column rest = range_test_at column false rest

unfoldable pub test_at : Operand → List Token → Read Filter
test_at left (Compare how ∷ rest) = oper_at rest >>= λ right. Ok (filter.Compare left how right.0, right.1)
test_at (operand.Column name) rest = column_test_at name rest
test_at (operand.Literal value) rest = Err rest

unfoldable pub atom_at : List Token → Read Filter
atom_at tokens = oper_at tokens >>= λ left. test_at left.0 left.1
