-- Of the same tokens one expression is read, up to where its boxes lie, where no operator follows it:
-- the machine reads the tree of whatever expression the tokens spell.
use Rattle.std.proofs.Common.{◌≡◌, ℕ, List, [], ◌∷◌, Option, None, refl, ap}
use Rattle.inno_types.specs.declared.stmt.Literal.{Literal}
use Rattle.inno_types.specs.declared.stmt.Expr.{Expr}
use Rattle.inno_types.specs.declared.stmt.Expr.TheVariants as expr
use Rattle.sql_grammar.specs.declared.token.Token.{Token}
use Rattle.sql_grammar.specs.declared.token.Token.TheVariants.{Number, Open, Close, Star, Plus, Minus}
use Rattle.sql_grammar.specs.Grammar.{Name, Lit, Expression, Strength, Loose, Tight, Single, BeginsNoNumber}
use Rattle.sql_grammar.specs.Grammar as grammar
use Rattle.law_histories.specs.Trees.{ExprTree, expr_tree}
use Rattle.law_histories.specs.Trees as tree
use Rattle.law_histories.proofs.Machine.{Frame, Takes, Adds, Bracket, Follow, Closing, Nothing, Opening, Before, State, Wants, Has, next, Run, whole, step, leaf, one_run, MayTight, MayLoose, NoTight, NoOperator, loose_tight, no_operator, tight_goes, loose_goes, adds_goes, ends}
use Rattle.law_histories.proofs.Machine as machine
use Rattle.law_histories.proofs.Parts.{Same, name_same, lit_same, no_name}

abbrev pub follow : List Token → Follow ExprTree
follow (Star ∷ rest) = machine.Tight tree.Multiply rest
follow (Plus ∷ rest) = machine.Loose tree.Add rest
follow (Minus ∷ rest) = machine.Loose tree.Subtract rest
follow (Close ∷ rest) = Closing rest
follow rest = Nothing

-- a minus before a number is part of the number
abbrev opening : List Token → Opening ExprTree
opening (Minus ∷ Number digits ∷ rest) = machine.Leaf
opening (Minus ∷ rest) = Before (Takes tree.Negate) rest
opening (Open ∷ rest) = Before Bracket rest
opening rest = machine.Leaf

-- a literal or a column
data Valued : List Token → Expr → List Token → Type 0 where
  of_literal : {xs ys : List Token} {value : Literal} → Lit xs value ys → Valued xs (expr.Literal value) ys
  of_column : {xs ys : List Token} {name : List ℕ} → Name xs name ys → Valued xs (expr.Column name) ys

valued_one : {xs ys zs : List Token} {e f : Expr} → Valued xs e ys → Valued xs f zs → Same e f ys zs
valued_one (of_literal l) (of_literal k) = let s = lit_same refl l k in (ap expr.Literal s.0, s.1)
valued_one (of_literal l) (of_column n) = no_name refl l n
valued_one (of_column n) (of_literal l) = no_name refl l n
valued_one (of_column n) (of_column m) = let s = name_same refl n m in (ap expr.Column s.0, s.1)

-- the same as a leaf
abbrev Leaf : List Token → ExprTree → List Token → Type 0
Leaf xs a ys = (e : Expr) × Valued xs e ys × (tree.Value e ≡ a)

valued_opens : {xs ys : List Token} {e : Expr} → Valued xs e ys → opening xs ≡ machine.Leaf
valued_opens (of_literal grammar.number) = refl
valued_opens (of_literal grammar.negative) = refl
valued_opens (of_literal grammar.text) = refl
valued_opens (of_literal grammar.null) = refl
valued_opens (of_column grammar.bare) = refl
valued_opens (of_column grammar.quoted) = refl

minus_opens : (xs : List Token) → BeginsNoNumber xs → opening (Minus ∷ xs) ≡ Before (Takes tree.Negate) xs
minus_opens [] h = refl
minus_opens (Number digits ∷ rest) h = absurd h
minus_opens (other ∷ rest) h = refl

abbrev go : State ExprTree → Option (State ExprTree)
go s = next follow opening s

apart : (below : List (Frame ExprTree)) (xs ys : List Token) (a : ExprTree) → Leaf xs a ys → go (Wants below xs) ≡ None
apart below xs ys a l = ap (λ (o : Opening ExprTree). machine.opened below o) (valued_opens l.1)

leaf_one : (xs ys zs : List Token) (a b : ExprTree) → Leaf xs a ys → Leaf xs b zs → Same a b ys zs
leaf_one xs ys zs a b l k = let s = valued_one l.1 k.1 in (cc, s.1)

-- what waits below an operand and what follows it leave it so strong
abbrev Stands : Strength → List (Frame ExprTree) → List Token → Type 0
Stands Loose below tokens = MayLoose below × NoTight (follow tokens)
Stands Tight below tokens = MayTight below
Stands Single below tokens = Unit {0}

-- the machine reads what the grammar spells
runs : {s : Strength} {xs ys : List Token} {e : Expr} → Expression s xs e ys → (below : List (Frame ExprTree)) → Stands s below ys
    → {zs : List Token} {b : ExprTree} → Run go Leaf (Has below (expr_tree e) ys) b zs → Run go Leaf (Wants below xs) b zs
runs (grammar.of_literal l) below h r = leaf (_, of_literal l, refl) r
runs (grammar.of_column n) below h r = leaf (_, of_column n, refl) r
runs (grammar.negate {xs = xs} n c) below h r =
    step (ap (λ (o : Opening ExprTree). machine.opened below o) (minus_opens xs n)) (runs c (Takes tree.Negate ∷ below) tt (step refl r))
runs (grammar.brackets c) below h r = step refl (runs c (Bracket ∷ below) (tt, tt) (step refl r))
runs (grammar.factor c) below h r = runs c below tt r
runs (grammar.term c) below h r = runs c below (loose_tight follow opening below h.0) r
runs (grammar.times {ys = ys} {e = e} c d) below h r =
    runs c below h (step (tight_goes follow opening below (expr_tree e) tree.Multiply (Star ∷ ys) ys refl h)
    (runs d (Takes (tree.Multiply (expr_tree e)) ∷ below) tt (step refl r)))
runs (grammar.plus {ys = ys} {zs = zs} {e = e} {f = f} c d) below h r =
    runs c below (h.0, tt) (step (loose_goes follow opening below (expr_tree e) tree.Add (Plus ∷ ys) ys refl h.0)
    (runs d (Adds (tree.Add (expr_tree e)) ∷ below) tt (step (adds_goes follow opening (tree.Add (expr_tree e)) below (expr_tree f) zs h.1) r)))
runs (grammar.minus {ys = ys} {zs = zs} {e = e} {f = f} c d) below h r =
    runs c below (h.0, tt) (step (loose_goes follow opening below (expr_tree e) tree.Subtract (Minus ∷ ys) ys refl h.0)
    (runs d (Adds (tree.Subtract (expr_tree e)) ∷ below) tt (step (adds_goes follow opening (tree.Subtract (expr_tree e)) below (expr_tree f) zs h.1) r)))

run_of : {xs ys : List Token} {e : Expr} → Expression Loose xs e ys → NoOperator (follow ys) → Run go Leaf (Wants [] xs) (expr_tree e) ys
run_of {ys = ys} {e = e} c h = runs c [] (tt, no_operator follow opening (follow ys) h) (whole (ends follow opening (expr_tree e) ys h))

pub expression_one : {xs ys zs : List Token} {e f : Expr} → Expression Loose xs e ys → Expression Loose xs f zs → NoOperator (follow ys)
    → NoOperator (follow zs) → Same (expr_tree e) (expr_tree f) ys zs
expression_one c d h k = one_run go Leaf apart leaf_one (run_of c h) (run_of d k)
