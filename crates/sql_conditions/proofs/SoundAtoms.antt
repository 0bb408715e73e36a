-- What is read is spelled so: one comparison or test.
use Rattle.std.proofs.Common.{◌≡◌, ℕ, List, [], ◌∷◌, Bool, true, false, Ok, IfOk, refl, sym, subst}
use Rattle.inno_types.specs.declared.stmt.Literal.{Literal}
use Rattle.inno_types.specs.declared.stmt.Operand.{Operand}
use Rattle.inno_types.specs.declared.stmt.Operand.TheVariants as operand
use Rattle.inno_types.specs.declared.stmt.Filter.{Filter}
use Rattle.inno_types.specs.declared.stmt.Filter.TheVariants as filter
use Rattle.sql_grammar.specs.declared.token.Word.TheVariants as word
use Rattle.sql_grammar.specs.declared.token.Token.{Token}
use Rattle.sql_grammar.specs.declared.token.Token.TheVariants.{Key, Bare, Quoted, Compare}
use Rattle.sql_grammar.specs.Grammar.{Name, Lit, Tuple, Oper, Atom}
use Rattle.sql_grammar.specs.Grammar as grammar
use Rattle.sql_conditions.specs.Parts.{◌>>=◌, lit_at, tuple_at}
use Rattle.sql_conditions.proofs.Sound.{bind, weaker, lit_sound, tuple_sound}
use Rattle.sql_conditions.specs.Atoms as read

oper_sound : (xs : List Token) → IfOk (read.oper_at xs) (λ r. Oper xs r.0 r.1)
unfolding read.oper_at
oper_sound (Bare meaning name ∷ rest) = grammar.of_column grammar.bare
oper_sound (Quoted name ∷ rest) = grammar.of_column grammar.quoted
oper_sound xs = bind (lit_at xs) (λ value. Ok (operand.Literal value.0, value.1)) (λ r. Lit xs r.0 r.1) (λ r. Oper xs r.0 r.1) (lit_sound xs) (λ r l. grammar.of_literal l)

and_sound : (xs : List Token) → IfOk (read.after_and xs) (λ ys. xs ≡ Key word.And ∷ ys)
and_sound [] = tt
and_sound (Key word.And ∷ ys) = refl
and_sound (other ∷ ys) = tt

null_sound : (xs : List Token) → IfOk (read.after_null xs) (λ ys. xs ≡ Key word.Null ∷ ys)
null_sound [] = tt
null_sound (Key word.Null ∷ ys) = refl
null_sound (other ∷ ys) = tt

-- what stands behind a column: the test's tokens, and NOT before them or not
data RangeTest (column : List ℕ) (negated : Bool) : List Token → Filter → List Token → Type 0 where
  bounds : {ys zs ws : List Token} {low high : Literal} → Lit ys low (Key word.And ∷ zs) → Lit zs high ws → RangeTest column negated (Key word.Between ∷ ys) (filter.Between column negated low high) ws
  items : {ys zs : List Token} {literals : List Literal} → Tuple ys literals zs → RangeTest column negated (Key word.In ∷ ys) (filter.In column negated literals) zs

between_sound : (column : List ℕ) (negated : Bool) (xs : List Token) → IfOk (read.between_at column negated xs) (λ r. RangeTest column negated (Key word.Between ∷ xs) r.0 r.1)
unfolding read.between_at
between_sound column negated xs =
    let Q = λ (r : Filter × List Token). RangeTest column negated (Key word.Between ∷ xs) r.0 r.1 in
    bind (lit_at xs) (λ low. read.after_and low.1 >>= λ rest. lit_at rest >>= λ high. Ok (filter.Between column negated low.0 high.0, high.1)) (λ r. Lit xs r.0 r.1) Q (lit_sound xs)
    (λ low l. bind (read.after_and low.1) (λ rest. lit_at rest >>= λ high. Ok (filter.Between column negated low.0 high.0, high.1)) (λ ys. low.1 ≡ Key word.And ∷ ys) Q (and_sound low.1)
    (λ rest e. bind (lit_at rest) (λ high. Ok (filter.Between column negated low.0 high.0, high.1)) (λ r. Lit rest r.0 r.1) Q (lit_sound rest)
    (λ high h. bounds (subst (λ (ts : List Token). Lit xs low.0 ts) e l) h)))

range_sound : (column : List ℕ) (negated : Bool) (xs : List Token) → IfOk (read.range_test_at column negated xs) (λ r. RangeTest column negated xs r.0 r.1)
unfolding read.range_test_at
range_sound column negated [] = tt
range_sound column negated (Key word.Between ∷ xs) = between_sound column negated xs
range_sound column negated (Key word.In ∷ xs) =
    bind (tuple_at xs) (λ literals. Ok (filter.In column negated literals.0, literals.1)) (λ r. Tuple xs r.0 r.1) (λ r. RangeTest column negated (Key word.In ∷ xs) r.0 r.1) (tuple_sound xs) (λ literals t. items t)
range_sound column negated (other ∷ xs) = tt

data ColumnTest (column : List ℕ) : List Token → Filter → List Token → Type 0 where
  plainly : {xs ys : List Token} {f : Filter} → RangeTest column false xs f ys → ColumnTest column xs f ys
  negated : {xs ys : List Token} {f : Filter} → RangeTest column true xs f ys → ColumnTest column (Key word.Not ∷ xs) f ys
  nothing : {ys : List Token} → ColumnTest column (Key word.Is ∷ Key word.Null ∷ ys) (filter.IsNull column false) ys
  something : {ys : List Token} → ColumnTest column (Key word.Is ∷ Key word.Not ∷ Key word.Null ∷ ys) (filter.IsNull column true) ys

null_test_sound : (column : List ℕ) (xs : List Token) → IfOk (read.null_test_at column xs) (λ r. ColumnTest column (Key word.Is ∷ xs) r.0 r.1)
unfolding read.null_test_at
null_test_sound column [] = tt
null_test_sound column (Key word.Null ∷ xs) = nothing
null_test_sound column (Key word.Not ∷ xs) =
    bind (read.after_null xs) (λ r. Ok (filter.IsNull column true, r)) (λ ys. xs ≡ Key word.Null ∷ ys) (λ r. ColumnTest column (Key word.Is ∷ Key word.Not ∷ xs) r.0 r.1) (null_sound xs)
    (λ ys e. subst (λ (ts : List Token). ColumnTest column (Key word.Is ∷ Key word.Not ∷ ts) (filter.IsNull column true) ys) (sym e) something)
null_test_sound column (other ∷ xs) = tt

column_sound : (column : List ℕ) (xs : List Token) → IfOk (read.column_test_at column xs) (λ r. ColumnTest column xs r.0 r.1)
unfolding read.column_test_at
column_sound column (Key word.Not ∷ xs) = weaker (read.range_test_at column true xs) (λ r. RangeTest column true xs r.0 r.1) (λ r. ColumnTest column (Key word.Not ∷ xs) r.0 r.1) (range_sound column true xs) (λ r t. negated t)
column_sound column (Key word.Is ∷ xs) = null_test_sound column xs
column_sound column xs = weaker (read.range_test_at column false xs) (λ r. RangeTest column false xs r.0 r.1) (λ r. ColumnTest column xs r.0 r.1) (range_sound column false xs) (λ r t. plainly t)

column_atom : {xs ys zs : List Token} {column : List ℕ} {f : Filter} → Name xs column ys → ColumnTest column ys f zs → Atom xs f zs
column_atom n (plainly (bounds l h)) = grammar.between n l h
column_atom n (plainly (items t)) = grammar.among n t
column_atom n (negated (bounds l h)) = grammar.not_between n l h
column_atom n (negated (items t)) = grammar.not_among n t
column_atom n nothing = grammar.is_null n
column_atom n something = grammar.is_not_null n

test_sound : (start : List Token) (left : Operand) (xs : List Token) → Oper start left xs → IfOk (read.test_at left xs) (λ r. Atom start r.0 r.1)
unfolding read.test_at
test_sound start left (Compare how ∷ xs) o =
    bind (read.oper_at xs) (λ right. Ok (filter.Compare left how right.0, right.1)) (λ r. Oper xs r.0 r.1) (λ r. Atom start r.0 r.1) (oper_sound xs) (λ right p. grammar.compare o p)
test_sound start (operand.Column name) xs o = weaker (read.column_test_at name xs) (λ r. ColumnTest name xs r.0 r.1) (λ r. Atom start r.0 r.1) (column_sound name xs) (λ r t. column_atom (column_of o) t)
  where
    column_of : {xs ys : List Token} {name : List ℕ} → Oper xs (operand.Column name) ys → Name xs name ys
    column_of (grammar.of_column n) = n
test_sound start (operand.Literal value) xs o = tt

pub atom_sound : (xs : List Token) → IfOk (read.atom_at xs) (λ r. Atom xs r.0 r.1)
unfolding read.atom_at
atom_sound xs = bind (read.oper_at xs) (λ left. read.test_at left.0 left.1) (λ r. Oper xs r.0 r.1) (λ r. Atom xs r.0 r.1) (oper_sound xs) (λ left o. test_sound xs left.0 left.1 o)
