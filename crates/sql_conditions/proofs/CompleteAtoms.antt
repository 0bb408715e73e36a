-- What is spelled so is read: one comparison or test.
use Rattle.std.proofs.Common.{◌≡◌, ℕ, ◌<◌, List, ◌∷◌, length, Bool, true, false, Ok, refl, arith}
use Rattle.inno_types.specs.declared.stmt.Literal.{Literal}
use Rattle.inno_types.specs.declared.stmt.Operand.{Operand}
use Rattle.inno_types.specs.declared.stmt.Operand.TheVariants as operand
use Rattle.inno_types.specs.declared.stmt.Filter.{Filter}
use Rattle.inno_types.specs.declared.stmt.Filter.TheVariants as filter
use Rattle.sql_grammar.specs.declared.token.Word.TheVariants as word
use Rattle.sql_grammar.specs.declared.token.Token.{Token}
use Rattle.sql_grammar.specs.declared.token.Token.TheVariants.{Key}
use Rattle.sql_grammar.specs.Grammar.{Name, Lit, Oper, Atom}
use Rattle.sql_grammar.specs.Grammar as grammar
use Rattle.sql_conditions.specs.Parts.{lit_at}
use Rattle.sql_conditions.proofs.Complete.{name_shorter, lit_complete, lit_shorter, tuple_complete, tuple_shorter}
use Rattle.sql_conditions.specs.Atoms as read

pub oper_complete : {xs ys : List Token} {o : Operand} → Oper xs o ys → read.oper_at xs ≡ Ok (o, ys)
unfolding read.oper_at lit_at
oper_complete (grammar.of_literal grammar.number) = refl
oper_complete (grammar.of_literal grammar.negative) = refl
oper_complete (grammar.of_literal grammar.text) = refl
oper_complete (grammar.of_literal grammar.null) = refl
oper_complete (grammar.of_column grammar.bare) = refl
oper_complete (grammar.of_column grammar.quoted) = refl

oper_shorter : {xs ys : List Token} {o : Operand} → Oper xs o ys → length ys < length xs
oper_shorter (grammar.of_literal l) = lit_shorter l
oper_shorter (grammar.of_column n) = name_shorter n

between_complete : {ys zs ws : List Token} {column : List ℕ} {low high : Literal} → (negated : Bool) → Lit ys low (Key word.And ∷ zs) → Lit zs high ws → read.between_at column negated ys ≡ Ok (filter.Between column negated low high, ws)
unfolding read.between_at
between_complete negated l h = rw (lit_complete l, lit_complete h) refl

named : {xs ys : List Token} {column : List ℕ} → Name xs column ys → read.oper_at xs ≡ Ok (operand.Column column, ys)
named n = oper_complete (grammar.of_column n)

pub atom_complete : {xs ys : List Token} {f : Filter} → Atom xs f ys → read.atom_at xs ≡ Ok (f, ys)
unfolding read.atom_at read.test_at read.column_test_at read.range_test_at read.null_test_at
atom_complete (grammar.compare o p) = rw (oper_complete o, oper_complete p) refl
atom_complete (grammar.between n l h) = rw (named n) (between_complete false l h)
atom_complete (grammar.not_between n l h) = rw (named n) (between_complete true l h)
atom_complete (grammar.among n t) = rw (named n, tuple_complete t) refl
atom_complete (grammar.not_among n t) = rw (named n, tuple_complete t) refl
atom_complete (grammar.is_null n) = rw (named n) refl
atom_complete (grammar.is_not_null n) = rw (named n) refl

pub atom_shorter : {xs ys : List Token} {f : Filter} → Atom xs f ys → length ys < length xs
atom_shorter (grammar.compare o p) = omega (arith, oper_shorter o, oper_shorter p)
atom_shorter (grammar.between n l h) = omega (arith, name_shorter n, lit_shorter l, lit_shorter h)
atom_shorter (grammar.not_between n l h) = omega (arith, name_shorter n, lit_shorter l, lit_shorter h)
atom_shorter (grammar.among n t) = omega (arith, name_shorter n, tuple_shorter t)
atom_shorter (grammar.not_among n t) = omega (arith, name_shorter n, tuple_shorter t)
atom_shorter (grammar.is_null n) = omega (arith, name_shorter n)
atom_shorter (grammar.is_not_null n) = omega (arith, name_shorter n)
