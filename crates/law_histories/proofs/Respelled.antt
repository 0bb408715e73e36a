-- What is spelled is spelled wherever its boxes lie: tokens that spell a statement spell each that is the same.
use Rattle.std.proofs.Common.{◌≡◌, ℕ, List, [], ◌∷◌, map, Option, Some, None, refl, ap, ◌∙◌, subst}
use Rattle.inno_types.specs.declared.lock.Mode.{Mode}
use Rattle.inno_types.specs.declared.stmt.Comparison.TheVariants.{Equal}
use Rattle.inno_types.specs.declared.stmt.Filter.{Filter}
use Rattle.inno_types.specs.declared.stmt.Filter.TheVariants as filter
use Rattle.inno_types.specs.declared.stmt.Expr.{Expr}
use Rattle.inno_types.specs.declared.stmt.Expr.TheVariants as expr
use Rattle.inno_types.specs.declared.stmt.Set.{Set}
use Rattle.inno_types.specs.declared.stmt.Selected.{Selected}
use Rattle.inno_types.specs.declared.stmt.Stmt.{Stmt}
use Rattle.inno_types.specs.declared.stmt.Stmt.TheVariants as stmt
use Rattle.sql_grammar.specs.declared.token.Token.{Token}
use Rattle.sql_grammar.specs.declared.token.Token.TheVariants.{Compare}
use Rattle.sql_grammar.specs.Grammar.{Strength, Name, Commas, Atom, Condition, Expression, Where, Assignment, Statement, Spells}
use Rattle.sql_grammar.specs.Grammar as grammar
use Rattle.law_histories.specs.Trees.{filter_tree, ExprTree, expr_tree, set_tree, where_tree, tree_of, SameStatement}
use Rattle.law_histories.specs.Trees as tree
use Rattle.law_histories.proofs.OneOutcome.{plain_same}

-- ---- conditions

leaf_same : (f g : Filter) → tree.Leaf f ≡ filter_tree g → f ≡ g
leaf_same f (filter.Not' p g) e = absurd (cc)
leaf_same f (filter.And' p g q h) e = absurd (cc)
leaf_same f (filter.Or' p g q h) e = absurd (cc)
leaf_same f other e = cc

atom_leaf : {xs ys : List Token} {f : Filter} → Atom xs f ys → tree.Leaf f ≡ filter_tree f
atom_leaf (grammar.compare o p) = refl
atom_leaf (grammar.between n l h) = refl
atom_leaf (grammar.not_between n l h) = refl
atom_leaf (grammar.among n t) = refl
atom_leaf (grammar.not_among n t) = refl
atom_leaf (grammar.is_null n) = refl
atom_leaf (grammar.is_not_null n) = refl

condition_again : {s : Strength} {xs ys : List Token} {f : Filter} → Condition s xs f ys → (g : Filter) → filter_tree f ≡ filter_tree g → Condition s xs g ys
condition_again {xs = xs} {ys = ys} {f = f} (grammar.atom a) g e = grammar.atom (subst (λ (f : Filter). Atom xs f ys) (leaf_same f g (atom_leaf a ∙ e)) a)
condition_again (grammar.brackets c) g e = grammar.brackets (condition_again c g e)
condition_again (grammar.neg c) g e = grammar.neg (condition_again c g e)
condition_again (grammar.conj c) g e = grammar.conj (condition_again c g e)
condition_again (grammar.not c) (filter.Not' p g) e = grammar.not (condition_again c g (cc))
condition_again (grammar.not c) other e = absurd (cc)
condition_again (grammar.and c d) (filter.And' p g q h) e = grammar.and (condition_again c g (cc)) (condition_again d h (cc))
condition_again (grammar.and c d) other e = absurd (cc)
condition_again (grammar.or c d) (filter.Or' p g q h) e = grammar.or (condition_again c g (cc)) (condition_again d h (cc))
condition_again (grammar.or c d) other e = absurd (cc)

where_again : {xs ys : List Token} {f : Option Filter} → Where xs f ys → (g : Option Filter) → where_tree f ≡ where_tree g → Where xs g ys
where_again grammar.each None e = grammar.each
where_again grammar.each (Some g) e = absurd (cc)
where_again (grammar.those c) None e = absurd (cc)
where_again (grammar.those c) (Some g) e = grammar.those (condition_again c g (cc))

-- ---- expressions

value_same : (e f : Expr) → tree.Value e ≡ expr_tree f → e ≡ f
value_same e (expr.Negate' p f) k = absurd (cc)
value_same e (expr.Add' p f q g) k = absurd (cc)
value_same e (expr.Subtract' p f q g) k = absurd (cc)
value_same e (expr.Multiply' p f q g) k = absurd (cc)
value_same e other k = cc

expression_again : {s : Strength} {xs ys : List Token} {e : Expr} → Expression s xs e ys → (f : Expr) → expr_tree e ≡ expr_tree f → Expression s xs f ys
expression_again {s = s} {xs = xs} {ys = ys} {e = e} (grammar.of_literal l) f k = subst (λ (x : Expr). Expression s xs x ys) (value_same e f k)
    (grammar.of_literal l)
expression_again {s = s} {xs = xs} {ys = ys} {e = e} (grammar.of_column n) f k = subst (λ (x : Expr). Expression s xs x ys) (value_same e f k)
    (grammar.of_column n)
expression_again (grammar.brackets c) f k = grammar.brackets (expression_again c f k)
expression_again (grammar.factor c) f k = grammar.factor (expression_again c f k)
expression_again (grammar.term c) f k = grammar.term (expression_again c f k)
expression_again (grammar.negate n c) (expr.Negate' p f) k = grammar.negate n (expression_again c f (cc))
expression_again (grammar.negate n c) other k = absurd (cc)
expression_again (grammar.times c d) (expr.Multiply' p f q g) k = grammar.times (expression_again c f (cc)) (expression_again d g (cc))
expression_again (grammar.times c d) other k = absurd (cc)
expression_again (grammar.plus c d) (expr.Add' p f q g) k = grammar.plus (expression_again c f (cc)) (expression_again d g (cc))
expression_again (grammar.plus c d) other k = absurd (cc)
expression_again (grammar.minus c d) (expr.Subtract' p f q g) k = grammar.minus (expression_again c f (cc)) (expression_again d g (cc))
expression_again (grammar.minus c d) other k = absurd (cc)

assignment_again : {xs ys : List Token} {s : Set} → Assignment xs s ys → (t : Set) → set_tree s ≡ set_tree t → Assignment xs t ys
assignment_again {xs = xs} (grammar.assign {ys = ys} n x) t e =
    let column = ap (λ (k : List ℕ × ExprTree). k.0) e in
    let value = ap (λ (k : List ℕ × ExprTree). k.1) e in
    grammar.assign (subst (λ (name : List ℕ). Name xs name (Compare Equal ∷ ys)) column n) (expression_again x t.value value)

sets_again : {xs ys : List Token} {ss : List Set} → Commas Assignment xs ss ys → (ts : List Set) → map set_tree ss ≡ map set_tree ts
    → Commas Assignment xs ts ys
sets_again (grammar.last a) [] e = absurd (cc)
sets_again (grammar.last a) (t ∷ []) e = grammar.last (assignment_again a t (cc))
sets_again (grammar.last a) (t ∷ u ∷ ts) e = absurd (cc)
sets_again (grammar.more a c) [] e = absurd (cc)
sets_again (grammar.more a c) (t ∷ ts) e = grammar.more (assignment_again a t (cc)) (sets_again c ts (cc))

-- ---- statements

statement_again : {xs : List Token} {a : Stmt} → Statement xs a → (b : Stmt) → tree_of a ≡ tree_of b → Statement xs b
statement_again {xs = xs} (grammar.select {selected = s} {table = t} {lock = l} c n w k) (stmt.Select v u g m) e =
    let again = grammar.select c n (where_again w g (cc)) k in
    let x : s ≡ v = cc in let y : t ≡ u = cc in let z : l ≡ m = cc in
    let one = subst (λ (v : Selected). Statement xs (stmt.Select v t g l)) x again in
    let two = subst (λ (u : List ℕ). Statement xs (stmt.Select v u g l)) y one in
    subst (λ (m : Option Mode). Statement xs (stmt.Select v u g m)) z two
statement_again (grammar.select c n w k) other e = absurd (cc)
statement_again {xs = xs} (grammar.update {table = t} n c w) (stmt.Update u ts g) e =
    let again = grammar.update n (sets_again c ts (cc)) (where_again w g (cc)) in
    let y : t ≡ u = cc in
    subst (λ (u : List ℕ). Statement xs (stmt.Update u ts g)) y again
statement_again (grammar.update n c w) other e = absurd (cc)
statement_again {xs = xs} (grammar.delete {table = t} n w) (stmt.Delete u g) e =
    let again = grammar.delete n (where_again w g (cc)) in
    let y : t ≡ u = cc in
    subst (λ (u : List ℕ). Statement xs (stmt.Delete u g)) y again
statement_again (grammar.delete n w) other e = absurd (cc)
statement_again {xs = xs} {a = a} d b e = subst (λ (s : Stmt). Statement xs s) (plain_same a b e) d

pub spelled_again : (text : List ℕ) (a b : Stmt) → Spells text a → SameStatement a b → Spells text b
spelled_again text a b p e = record { tokens = p.tokens; lexed = p.lexed; parsed = statement_again p.parsed b e }
