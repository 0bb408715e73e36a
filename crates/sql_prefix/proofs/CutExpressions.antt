-- Tokens that are cut off amid a statement can be finished: expressions and assignments.
use Rattle.std.proofs.Common.{◌≡◌, ℕ, suc, List, [], ◌∷◌, ◌++◌, refl, subst}
use Rattle.inno_types.specs.declared.stmt.Comparison.TheVariants.{Equal}
use Rattle.inno_types.specs.declared.stmt.Expr.{Expr}
use Rattle.inno_types.specs.declared.stmt.Expr.TheVariants as expr
use Rattle.inno_types.specs.declared.stmt.Set.{Set}
use Rattle.sql_grammar.specs.declared.token.Token.{Token}
use Rattle.sql_grammar.specs.declared.token.Token.TheVariants.{Compare, Open, Close, Star, Plus, Minus}
use Rattle.sql_grammar.specs.Grammar.{plain_number, negative_number, Name, Commas, BeginsNoNumber, Expression, Strength, Loose, Tight, Single, Assignment}
use Rattle.sql_grammar.specs.Grammar as grammar
use Rattle.sql_prefix.proofs.Depth.{level}
use Rattle.sql_prefix.proofs.Cuts.{Like, Under, Cut, closers, inside, beyond, cut, keep, X, Zero, seq, made, wider, behind, lit_cut, commas_cut}
use Rattle.sql_prefix.proofs.Cuts as cuts
use Rattle.sql_prefix.proofs.CutConditions.{Ending, zero_end, closed_last}
use Rattle.sql_prefix.proofs.Ends as ends

start_single : {ys : List Token} → Cut (Expression Single) Ending ys []
start_single = inside (Zero ∷ []) 0 ends.zero (λ d. refl) (expr.Literal (plain_number (48 ∷ []))) (λ zs. grammar.of_literal grammar.number)

no_number : {t u : Token} (ts : List Token) → BeginsNoNumber (t ∷ ts) → Like t u → (us : List Token) → BeginsNoNumber (u ∷ us)
no_number ts b cuts.key us = tt
no_number ts b cuts.bare us = tt
no_number ts b cuts.quoted us = tt
no_number ts b cuts.number us = absurd b
no_number ts b cuts.long_number us = absurd b
no_number ts b cuts.text us = tt
no_number ts b cuts.compare us = tt
no_number ts b cuts.less_or_equal us = tt
no_number ts b cuts.not_equal us = tt
no_number ts b cuts.greater_or_equal us = tt
no_number ts b cuts.opens us = tt
no_number ts b cuts.closes us = tt
no_number ts b cuts.comma us = tt
no_number ts b cuts.star us = tt
no_number ts b cuts.plus us = tt
no_number ts b cuts.minus us = tt

negated : {ys us : List Token} (make : Expr → Expr) → ((ps qs : List Token) (e : Expr) → BeginsNoNumber ps → Expression Single ps e qs → Expression Single (Minus ∷ ps) (make e) qs)
    → ((zs : List Token) → BeginsNoNumber (us ++ zs)) → Cut (Expression Single) Ending ys us → Cut (Expression Single) Ending ys (Minus ∷ us)
negated make join b (inside f n e l a r) = inside f n e l (make a) (λ zs. join _ _ _ (b (f ++ (closers n ++ zs))) (r zs))
negated make join b (beyond vs u l a r) = beyond vs u l (make a) (λ zs. join _ _ _ (b zs) (r zs))

-- behind a minus that no number follows
minus_zero : {ys : List Token} → Cut (Expression Single) Ending ys (Minus ∷ [])
minus_zero = inside (Zero ∷ []) 0 ends.zero (λ d. refl) (expr.Literal (negative_number (48 ∷ []))) (λ zs. grammar.of_literal grammar.negative)

in_brackets : {ys us : List Token} → Cut (Expression Loose) Ending (Close ∷ ys) us → Cut (Expression Single) Ending ys (Open ∷ us)
in_brackets {us = us} (inside f n e l a r) =
    inside f (suc n) e (λ d. l (suc d)) a (λ zs. grammar.brackets (subst (λ (ts : List Token). Expression Loose (us ++ (f ++ ts)) a (Close ∷ zs)) (closed_last n zs) (r (Close ∷ zs))))
in_brackets (beyond _ cut l a r) = inside [] 1 ends.nothing (λ d. l (suc d)) a (λ zs. grammar.brackets (r (Close ∷ zs)))
in_brackets (beyond _ (keep cuts.closes u) l a r) = beyond _ u (λ d. l (suc d)) a (λ zs. grammar.brackets (r zs))

plus_cut : {ys zs us : List Token} (both : Expr → Expr → Expr) → ((ps qs rs : List Token) (e f : Expr) → Expression Loose ps e (Plus ∷ qs) → Expression Tight qs f rs → Expression Loose ps (both e f) rs)
    → Cut (Expression Loose) Ending (Plus ∷ ys) us → ((vs : List Token) → Under ys vs → Cut (Expression Tight) Ending zs vs) → Cut (Expression Loose) Ending zs us
plus_cut both join (inside f n e l a r) rest = inside f n e l a r
plus_cut both join (beyond _ cut l a r) rest = beyond [] cut l a r
plus_cut both join (beyond _ (keep {us = vs} cuts.plus u) l a r) rest =
    seq {First = λ ps qs. Expression Loose ps a (Plus ∷ qs)} l r (λ g. both a g) (λ ps qs rs g p q. join ps qs rs a g p q) (rest vs u)

minus_cut : {ys zs us : List Token} (both : Expr → Expr → Expr) → ((ps qs rs : List Token) (e f : Expr) → Expression Loose ps e (Minus ∷ qs) → Expression Tight qs f rs → Expression Loose ps (both e f) rs)
    → Cut (Expression Loose) Ending (Minus ∷ ys) us → ((vs : List Token) → Under ys vs → Cut (Expression Tight) Ending zs vs) → Cut (Expression Loose) Ending zs us
minus_cut both join (inside f n e l a r) rest = inside f n e l a r
minus_cut both join (beyond _ cut l a r) rest = beyond [] cut l a r
minus_cut both join (beyond _ (keep {us = vs} cuts.minus u) l a r) rest =
    seq {First = λ ps qs. Expression Loose ps a (Minus ∷ qs)} l r (λ g. both a g) (λ ps qs rs g p q. join ps qs rs a g p q) (rest vs u)

times_cut : {ys zs us : List Token} (both : Expr → Expr → Expr) → ((ps qs rs : List Token) (e f : Expr) → Expression Tight ps e (Star ∷ qs) → Expression Single qs f rs → Expression Tight ps (both e f) rs)
    → Cut (Expression Tight) Ending (Star ∷ ys) us → ((vs : List Token) → Under ys vs → Cut (Expression Single) Ending zs vs) → Cut (Expression Tight) Ending zs us
times_cut both join (inside f n e l a r) rest = inside f n e l a r
times_cut both join (beyond _ cut l a r) rest = beyond [] cut l a r
times_cut both join (beyond _ (keep {us = vs} cuts.star u) l a r) rest =
    seq {First = λ ps qs. Expression Tight ps a (Star ∷ qs)} l r (λ g. both a g) (λ ps qs rs g p q. join ps qs rs a g p q) (rest vs u)

pub expression_cut : {strength : Strength} {xs ys us : List Token} {e : Expr} → Expression strength xs e ys → Under xs us → Cut (Expression strength) Ending ys us
expression_cut (grammar.term e) u = made (λ e. e) (λ ps qs a t. grammar.term t) (expression_cut e u)
expression_cut (grammar.plus {p = p} {q = q} e f) u = plus_cut (λ e f. expr.Add' p e q f) (λ ps qs rs e f x y. grammar.plus x y) (expression_cut e u) (λ vs v. expression_cut f v)
expression_cut (grammar.minus {p = p} {q = q} e f) u = minus_cut (λ e f. expr.Subtract' p e q f) (λ ps qs rs e f x y. grammar.minus x y) (expression_cut e u) (λ vs v. expression_cut f v)
expression_cut (grammar.factor e) u = made (λ e. e) (λ ps qs a t. grammar.factor t) (expression_cut e u)
expression_cut (grammar.times {p = p} {q = q} e f) u = times_cut (λ e f. expr.Multiply' p e q f) (λ ps qs rs e f x y. grammar.times x y) (expression_cut e u) (λ vs v. expression_cut f v)
expression_cut (grammar.of_literal l) u = wider zero_end (made (λ v. expr.Literal v) (λ ps qs a t. grammar.of_literal t) (lit_cut l u))
expression_cut (grammar.of_column n) cut = start_single
expression_cut (grammar.of_column grammar.bare) (keep (cuts.bare {b = b}) u) = beyond _ u (λ d. refl) (expr.Column b) (λ zs. grammar.of_column grammar.bare)
expression_cut (grammar.of_column grammar.quoted) (keep (cuts.quoted {b = b}) u) = beyond _ u (λ d. refl) (expr.Column b) (λ zs. grammar.of_column grammar.quoted)
expression_cut (grammar.negate b e) cut = start_single
expression_cut (grammar.negate b e) (keep cuts.minus cut) = minus_zero
expression_cut (grammar.negate {p = p} b e) (keep cuts.minus (keep {us = us} k u)) =
    negated (λ e. expr.Negate' p e) (λ ps qs e c x. grammar.negate c x) (λ zs. no_number _ b k (us ++ zs)) (expression_cut e (keep k u))
expression_cut (grammar.brackets e) cut = start_single
expression_cut (grammar.brackets e) (keep cuts.opens u) = in_brackets (expression_cut e u)

-- ---- name "=" expr

assigned_from_name : {ys us : List Token} (name : List ℕ) → ((zs : List Token) → Name (us ++ zs) name zs) → ((d : ℕ) → level d us ≡ d) → Cut Assignment Ending ys us
assigned_from_name name n l =
    inside (Compare Equal ∷ Zero ∷ []) 0 ends.equals_zero l (record { column = name; value = expr.Literal (plain_number (48 ∷ [])) }) (λ zs. grammar.assign (n (Compare Equal ∷ Zero ∷ zs)) (grammar.term (grammar.factor (grammar.of_literal grammar.number))))

behind_equal : {zs us : List Token} (name : List ℕ) (vs : List Token) → ((d : ℕ) → level d us ≡ level d vs) → ((zs : List Token) → Name (us ++ zs) name (Compare Equal ∷ (vs ++ zs))) → Cut (Expression Loose) Ending zs vs → Cut Assignment Ending zs us
behind_equal name vs l n c = seq {First = λ ps qs. Name ps name (Compare Equal ∷ qs)} l n (λ e. record { column = name; value = e }) (λ ps qs rs e p q. grammar.assign p q) c

pub assignment_cut : {xs ys us : List Token} {s : Set} → Assignment xs s ys → Under xs us → Cut Assignment Ending ys us
assignment_cut a cut = inside (X ∷ Compare Equal ∷ Zero ∷ []) 0 ends.name_equals_zero (λ d. refl) (record { column = 120 ∷ []; value = expr.Literal (plain_number (48 ∷ [])) }) (λ zs. grammar.assign grammar.bare (grammar.term (grammar.factor (grammar.of_literal grammar.number))))
assignment_cut (grammar.assign grammar.bare e) (keep (cuts.bare {b = b}) cut) = assigned_from_name b (λ zs. grammar.bare) (λ d. refl)
assignment_cut (grammar.assign grammar.bare e) (keep (cuts.bare {b = b}) (keep {us = vs} cuts.compare u)) = behind_equal b vs (λ d. refl) (λ zs. grammar.bare) (expression_cut e u)
assignment_cut (grammar.assign grammar.quoted e) (keep (cuts.quoted {b = b}) cut) = assigned_from_name b (λ zs. grammar.quoted) (λ d. refl)
assignment_cut (grammar.assign grammar.quoted e) (keep (cuts.quoted {b = b}) (keep {us = vs} cuts.compare u)) = behind_equal b vs (λ d. refl) (λ zs. grammar.quoted) (expression_cut e u)

pub assignments_cut : {xs ys us : List Token} {sets : List Set} → Commas Assignment xs sets ys → Under xs us → Cut (Commas Assignment) Ending ys us
assignments_cut c u = commas_cut Assignment Ending (λ xs ys us a i v. assignment_cut i v) c u
