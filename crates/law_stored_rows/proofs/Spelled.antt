-- The literals of a statement that a text spells have 64 bits.
use Rattle.std.proofs.Common.{◌≡◌, ℕ, zero, suc, ◌^◌, pos, neg_ℤ, true, List, [], arith}
use Rattle.std.specs.Prelude.{All, FitsSigned, nat_lt, nat_le}
use Rattle.std.specs.Int.{w64}
use Rattle.std.proofs.lemmas.Bool.{cond_both}
use Rattle.std.proofs.lemmas.Bool.Decides.{nat_tests}
use Rattle.std.proofs.lemmas.List.Elements.{All-nil, All-cons}
use Rattle.inno_types.specs.declared.stmt.Literal.{Literal}
use Rattle.inno_types.specs.declared.stmt.Literal.TheVariants as literal
use Rattle.inno_types.specs.{declared.stmt.Expr.Expr, declared.stmt.Set.Set, declared.stmt.Stmt.Stmt}
use Rattle.sql_grammar.specs.declared.token.Token.{Token}
use Rattle.sql_grammar.specs.Grammar.{number_of, plain_number, negative_number, Lit, Commas, Tuple, Strength, Expression, Assignment, Statement, Spells}
use Rattle.sql_grammar.specs.Grammar as grammar
use Rattle.law_stored_rows.specs.Numbers.{LiteralHas64Bits, ExprHas64Bits, Stores64Bits}

-- ---- numbers

below : (n : ℕ) → nat_lt n (2 ^ 63) ≡ true → FitsSigned w64 (pos n)
below n h = record { sfits = grind (arith, nat_tests) }

plain-Has64Bits : (digits : List ℕ) → LiteralHas64Bits (plain_number digits)
unfolding plain_number
plain-Has64Bits digits =
    let n = number_of digits in
    cond_both (nat_lt n (2 ^ 63)) (literal.Int (pos n)) literal.TooBig LiteralHas64Bits (below n) (λ h. tt)

at_most : (n : ℕ) → nat_le n (2 ^ 63) ≡ true → FitsSigned w64 (neg_ℤ (pos n))
at_most zero h = record { sfits = omega arith }
at_most (suc n) h = record { sfits = grind (arith, nat_tests) }

negative-Has64Bits : (digits : List ℕ) → LiteralHas64Bits (negative_number digits)
unfolding negative_number
negative-Has64Bits digits =
    let n = number_of digits in
    cond_both (nat_le n (2 ^ 63)) (literal.Int (neg_ℤ (pos n))) literal.TooBig LiteralHas64Bits (at_most n) (λ h. tt)

literal-Has64Bits : {xs ys : List Token} {l : Literal} → Lit xs l ys → LiteralHas64Bits l
literal-Has64Bits (grammar.number {digits = digits}) = plain-Has64Bits digits
literal-Has64Bits (grammar.negative {digits = digits}) = negative-Has64Bits digits
literal-Has64Bits other = tt

-- ---- tuples and assignments

commas-Has64Bits : {A : Type 0} (Item : List Token → A → List Token → Type 0) (P : A → Type 0) → ((xs ys : List Token) (a : A) → Item xs a ys → P a)
    → {xs ys : List Token} {as' : List A} → Commas Item xs as' ys → All P as'
commas-Has64Bits Item P each (grammar.last {a = a} i) = All-cons P a [] (each _ _ a i) (All-nil P)
commas-Has64Bits Item P each (grammar.more {a = a} {others = others} i c) = All-cons P a others (each _ _ a i) (commas-Has64Bits Item P each c)

tuple-Has64Bits : {xs ys : List Token} {literals : List Literal} → Tuple xs literals ys → All LiteralHas64Bits literals
tuple-Has64Bits (grammar.tuple c) = commas-Has64Bits Lit LiteralHas64Bits (λ xs ys l i. literal-Has64Bits i) c

expression-Has64Bits : {s : Strength} {xs ys : List Token} {e : Expr} → Expression s xs e ys → ExprHas64Bits e
expression-Has64Bits (grammar.term x) = expression-Has64Bits x
expression-Has64Bits (grammar.factor x) = expression-Has64Bits x
expression-Has64Bits (grammar.of_literal l) = literal-Has64Bits l
expression-Has64Bits (grammar.brackets x) = expression-Has64Bits x
expression-Has64Bits other = tt

assignment-Has64Bits : {xs ys : List Token} {set : Set} → Assignment xs set ys → ExprHas64Bits set.value
assignment-Has64Bits (grammar.assign n x) = expression-Has64Bits x

-- ---- statements

statement-Has64Bits : {xs : List Token} {stmt : Stmt} → Statement xs stmt → Stores64Bits stmt
statement-Has64Bits (grammar.insert i n l v c) = commas-Has64Bits Tuple (All LiteralHas64Bits) (λ xs ys t i. tuple-Has64Bits i) c
statement-Has64Bits (grammar.update n c w) = commas-Has64Bits Assignment (λ (set : Set). ExprHas64Bits set.value) (λ xs ys set i. assignment-Has64Bits i) c
statement-Has64Bits other = tt

pub spelled-Has64Bits : (text : List ℕ) (stmt : Stmt) → Spells text stmt → Stores64Bits stmt
spelled-Has64Bits text stmt spells = statement-Has64Bits spells.parsed
