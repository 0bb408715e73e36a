-- Tokens that are cut off amid a statement can be finished: conditions.
use Rattle.std.proofs.Common.{◌≡◌, ℕ, zero, suc, List, [], ◌∷◌, ◌++◌, Option, Some, None, true, false, refl, ap, subst}
use Rattle.inno_types.specs.declared.stmt.Comparison.TheVariants.{Equal, Less, Greater}
use Rattle.inno_types.specs.declared.stmt.Comparison.{Comparison}
use Rattle.inno_types.specs.declared.stmt.Literal.{Literal}
use Rattle.inno_types.specs.declared.stmt.Operand.{Operand}
use Rattle.inno_types.specs.declared.stmt.Operand.TheVariants as operand
use Rattle.inno_types.specs.declared.stmt.Filter.{Filter}
use Rattle.inno_types.specs.declared.stmt.Filter.TheVariants as filter
use Rattle.sql_grammar.specs.declared.token.Word.TheVariants as word
use Rattle.sql_grammar.specs.declared.token.Token.{Token}
use Rattle.sql_grammar.specs.declared.token.Token.TheVariants.{Key, Compare, Open, Close}
use Rattle.sql_grammar.specs.Grammar.{plain_number, Name, Lit, Tuple, Oper, Atom, Condition, Strength, Loose, Tight, Single, Where}
use Rattle.sql_grammar.specs.Grammar as grammar
use Rattle.sql_prefix.proofs.Depth.{level}
use Rattle.sql_prefix.proofs.Cuts.{Like, Under, Cut, Just, just, closers, deeper, inside, beyond, cut, keep, X, Zero, seq, made, wider, behind, InTuple, name_cut, lit_cut, tuple_cut}
use Rattle.sql_prefix.proofs.Cuts as cuts
use Rattle.sql_prefix.proofs.Ends.{End}
use Rattle.sql_prefix.proofs.Ends as ends

-- whatever number of brackets is closed behind them
abbrev pub Ending : ℕ → List Token → Type 0
Ending n f = End f

-- ---- operands and ranges

oper_cut : {xs ys us : List Token} {o : Operand} → Oper xs o ys → Under xs us → Cut Oper (Just (Zero ∷ [])) ys us
oper_cut o cut = inside (Zero ∷ []) 0 just (λ d. refl) (operand.Literal (plain_number (48 ∷ []))) (λ zs. grammar.of_literal grammar.number)
oper_cut (grammar.of_literal l) u = made (λ v. operand.Literal v) (λ ps qs a l. grammar.of_literal l) (lit_cut l u)
oper_cut (grammar.of_column grammar.bare) (keep (cuts.bare {b = b}) u) = beyond _ u (λ d. refl) (operand.Column b) (λ zs. grammar.of_column grammar.bare)
oper_cut (grammar.of_column grammar.quoted) (keep (cuts.quoted {b = b}) u) = beyond _ u (λ d. refl) (operand.Column b) (λ zs. grammar.of_column grammar.quoted)

-- two literals with an AND between them
data Bounds : List Token → Literal × Literal → List Token → Type 0 where
  bounds : {xs ys zs : List Token} {low high : Literal} → Lit xs low (Key word.And ∷ ys) → Lit ys high zs → Bounds xs (low, high) zs

bounds_cut : {ys zs us : List Token} → Cut Lit (Just (Zero ∷ [])) (Key word.And ∷ ys) us → ((vs : List Token) → Under ys vs → Cut Lit (Just (Zero ∷ [])) zs vs) → Cut Bounds Ending zs us
bounds_cut (inside _ _ just l a r) rest = inside (Zero ∷ Key word.And ∷ Zero ∷ []) 0 ends.zero_and_zero l (a, plain_number (48 ∷ [])) (λ zs. bounds (r (Key word.And ∷ Zero ∷ zs)) grammar.number)
bounds_cut (beyond _ cut l a r) rest = inside (Key word.And ∷ Zero ∷ []) 0 ends.and_zero l (a, plain_number (48 ∷ [])) (λ zs. bounds (r (Key word.And ∷ Zero ∷ zs)) grammar.number)
bounds_cut (beyond _ (keep {us = vs} cuts.key u) l a r) rest =
    wider {Ends = Just (Zero ∷ [])} zero_end (seq {First = λ ps qs. Lit ps a (Key word.And ∷ qs)} l r (λ high. (a, high)) (λ ps qs rs b p q. bounds p q) (rest vs u))
  where
    zero_end : (n : ℕ) (f : List Token) → Just (Zero ∷ []) n f → End f
    zero_end _ _ just = ends.zero

-- ---- what stands behind a column in a comparison or a test

data Test (column : List ℕ) : List Token → Filter → List Token → Type 0 where
  compare : {ys zs : List Token} {right : Operand} {how : Comparison} → Oper ys right zs → Test column (Compare how ∷ ys) (filter.Compare (operand.Column column) how right) zs
  between : {ys zs : List Token} {both : Literal × Literal} → Bounds ys both zs → Test column (Key word.Between ∷ ys) (filter.Between column false both.0 both.1) zs
  not_between : {ys zs : List Token} {both : Literal × Literal} → Bounds ys both zs → Test column (Key word.Not ∷ Key word.Between ∷ ys) (filter.Between column true both.0 both.1) zs
  among : {ys zs : List Token} {literals : List Literal} → Tuple ys literals zs → Test column (Key word.In ∷ ys) (filter.In column false literals) zs
  not_among : {ys zs : List Token} {literals : List Literal} → Tuple ys literals zs → Test column (Key word.Not ∷ Key word.In ∷ ys) (filter.In column true literals) zs
  is_null : {ys : List Token} → Test column (Key word.Is ∷ Key word.Null ∷ ys) (filter.IsNull column false) ys
  is_not_null : {ys : List Token} → Test column (Key word.Is ∷ Key word.Not ∷ Key word.Null ∷ ys) (filter.IsNull column true) ys

pub zero_end : (n : ℕ) (f : List Token) → Just (Zero ∷ []) n f → End f
zero_end _ _ just = ends.zero

pub tuple_end : (n : ℕ) (f : List Token) → InTuple n f → End f
tuple_end _ _ cuts.whole = ends.zero_tuple
tuple_end _ _ cuts.last = ends.zero
tuple_end _ _ cuts.none = ends.nothing

compared : {ys us : List Token} (column : List ℕ) (how : Comparison) → Cut Oper (Just (Zero ∷ [])) ys us → Cut (Test column) Ending ys (Compare how ∷ us)
compared column how c = wider zero_end (behind (Compare how) (λ d. refl) (λ right. filter.Compare (operand.Column column) how right) (λ ps qs a o. compare o) c)

in_range : {ys us : List Token} (column : List ℕ) → Cut Bounds Ending ys us → Cut (Test column) Ending ys (Key word.Between ∷ us)
in_range column c = behind (Key word.Between) (λ d. refl) (λ both. filter.Between column false both.0 both.1) (λ ps qs a b. between b) c

not_in_range : {ys us : List Token} (column : List ℕ) → Cut Bounds Ending ys us → Cut (Test column) Ending ys (Key word.Not ∷ Key word.Between ∷ us)
not_in_range column (inside f n e l a r) = inside f n e l (filter.Between column true a.0 a.1) (λ zs. not_between (r zs))
not_in_range column (beyond vs u l a r) = beyond vs u l (filter.Between column true a.0 a.1) (λ zs. not_between (r zs))

in_tuple : {ys us : List Token} (column : List ℕ) → Cut Tuple InTuple ys us → Cut (Test column) Ending ys (Key word.In ∷ us)
in_tuple column c = wider tuple_end (behind (Key word.In) (λ d. refl) (λ literals. filter.In column false literals) (λ ps qs a t. among t) c)

not_in_tuple : {ys us : List Token} (column : List ℕ) → Cut Tuple InTuple ys us → Cut (Test column) Ending ys (Key word.Not ∷ Key word.In ∷ us)
not_in_tuple column (inside f n e l a r) = inside f n (tuple_end n f e) l (filter.In column true a) (λ zs. not_among (r zs))
not_in_tuple column (beyond vs u l a r) = beyond vs u l (filter.In column true a) (λ zs. not_among (r zs))

-- behind a NOT
in_zero : {ys : List Token} (column : List ℕ) → Cut (Test column) Ending ys (Key word.Not ∷ [])
in_zero column = inside (Key word.In ∷ Open ∷ Zero ∷ Close ∷ []) 0 ends.in_zero (λ d. refl) (filter.In column true (plain_number (48 ∷ []) ∷ [])) (λ zs. not_among (grammar.tuple (grammar.last grammar.number)))

test_cut : {xs ys us : List Token} {column : List ℕ} {f : Filter} (name : List ℕ) → Test column xs f ys → Under xs us → Cut (Test name) Ending ys us
test_cut name t cut = inside (Compare Equal ∷ Zero ∷ []) 0 ends.equals_zero (λ d. refl) (filter.Compare (operand.Column name) Equal (operand.Literal (plain_number (48 ∷ [])))) (λ zs. compare (grammar.of_literal grammar.number))
test_cut name (compare o) (keep (cuts.compare {how = how}) u) = compared name how (oper_cut o u)
test_cut name (compare o) (keep cuts.less_or_equal u) = compared name Less (oper_cut o u)
test_cut name (compare o) (keep cuts.not_equal u) = compared name Less (oper_cut o u)
test_cut name (compare o) (keep cuts.greater_or_equal u) = compared name Greater (oper_cut o u)
test_cut name (between (bounds l h)) (keep cuts.key u) = in_range name (bounds_cut (lit_cut l u) (λ vs v. lit_cut h v))
test_cut name (not_between b) (keep cuts.key cut) = in_zero name
test_cut name (not_between (bounds l h)) (keep cuts.key (keep cuts.key u)) = not_in_range name (bounds_cut (lit_cut l u) (λ vs v. lit_cut h v))
test_cut name (among t) (keep cuts.key u) = in_tuple name (tuple_cut t u)
test_cut name (not_among t) (keep cuts.key cut) = in_zero name
test_cut name (not_among t) (keep cuts.key (keep cuts.key u)) = not_in_tuple name (tuple_cut t u)
test_cut name is_null (keep cuts.key cut) = inside (Key word.Null ∷ []) 0 ends.null (λ d. refl) (filter.IsNull name false) (λ zs. is_null)
test_cut name is_null (keep cuts.key (keep cuts.key u)) = beyond _ u (λ d. refl) (filter.IsNull name false) (λ zs. is_null)
test_cut name is_not_null (keep cuts.key cut) = inside (Key word.Null ∷ []) 0 ends.null (λ d. refl) (filter.IsNull name false) (λ zs. is_null)
test_cut name is_not_null (keep cuts.key (keep cuts.key cut)) = inside (Key word.Null ∷ []) 0 ends.null (λ d. refl) (filter.IsNull name true) (λ zs. is_not_null)
test_cut name is_not_null (keep cuts.key (keep cuts.key (keep cuts.key u))) = beyond _ u (λ d. refl) (filter.IsNull name true) (λ zs. is_not_null)

-- ---- comparisons and tests

zero_is_zero : Filter
zero_is_zero = filter.Compare (operand.Literal (plain_number (48 ∷ []))) Equal (operand.Literal (plain_number (48 ∷ [])))

start : {ys : List Token} → Cut Atom Ending ys []
start = inside (Zero ∷ Compare Equal ∷ Zero ∷ []) 0 ends.zero_is_zero (λ d. refl) (filter.Compare (operand.Literal (plain_number (48 ∷ []))) Equal (operand.Literal (plain_number (48 ∷ [])))) (λ zs. grammar.compare (grammar.of_literal grammar.number) (grammar.of_literal grammar.number))

-- behind the left operand
sides : {zs us : List Token} (left : Operand) (how : Comparison) (vs : List Token) → ((d : ℕ) → level d us ≡ level d vs) → ((zs : List Token) → Oper (us ++ zs) left (Compare how ∷ (vs ++ zs))) → Cut Oper (Just (Zero ∷ [])) zs vs → Cut Atom Ending zs us
sides left how vs l r c = wider zero_end (seq {First = λ ps qs. Oper ps left (Compare how ∷ qs)} l r (λ right. filter.Compare left how right) (λ ps qs rs b p q. grammar.compare p q) c)

atom_of_sides : {ys zs us : List Token} {how : Comparison} → Cut Oper (Just (Zero ∷ [])) (Compare how ∷ ys) us → ((vs : List Token) → Under ys vs → Cut Oper (Just (Zero ∷ [])) zs vs) → Cut Atom Ending zs us
atom_of_sides (inside _ _ just l a r) rest =
    inside (Zero ∷ Compare Equal ∷ Zero ∷ []) 0 ends.zero_is_zero l (filter.Compare a Equal (operand.Literal (plain_number (48 ∷ [])))) (λ zs. grammar.compare (r (Compare Equal ∷ Zero ∷ zs)) (grammar.of_literal grammar.number))
atom_of_sides (beyond _ cut l a r) rest =
    inside (Compare Equal ∷ Zero ∷ []) 0 ends.equals_zero l (filter.Compare a Equal (operand.Literal (plain_number (48 ∷ [])))) (λ zs. grammar.compare (r (Compare Equal ∷ Zero ∷ zs)) (grammar.of_literal grammar.number))
atom_of_sides (beyond _ (keep {us = vs} (cuts.compare {how = how}) u) l a r) rest = sides a how vs l r (rest vs u)
atom_of_sides (beyond _ (keep {us = vs} cuts.less_or_equal u) l a r) rest = sides a Less vs l r (rest vs u)
atom_of_sides (beyond _ (keep {us = vs} cuts.not_equal u) l a r) rest = sides a Less vs l r (rest vs u)
atom_of_sides (beyond _ (keep {us = vs} cuts.greater_or_equal u) l a r) rest = sides a Greater vs l r (rest vs u)

joined : {ps qs rs : List Token} {column : List ℕ} {f : Filter} → Name ps column qs → Test column qs f rs → Atom ps f rs
joined n (compare o) = grammar.compare (grammar.of_column n) o
joined n (between (bounds l h)) = grammar.between n l h
joined n (not_between (bounds l h)) = grammar.not_between n l h
joined n (among t) = grammar.among n t
joined n (not_among t) = grammar.not_among n t
joined n is_null = grammar.is_null n
joined n is_not_null = grammar.is_not_null n

tested : {xs ys zs us : List Token} {column : List ℕ} {f : Filter} → Name xs column ys → Test column ys f zs → Under xs us → Cut Atom Ending zs us
tested n t cut = start
tested grammar.bare t (keep {us = vs} (cuts.bare {b = b}) u) = seq {First = λ ps qs. Name ps b qs} {vs = vs} (λ d. refl) (λ zs. grammar.bare) (λ f. f) (λ ps qs rs f p q. joined p q) (test_cut b t u)
tested grammar.quoted t (keep {us = vs} (cuts.quoted {b = b}) u) = seq {First = λ ps qs. Name ps b qs} {vs = vs} (λ d. refl) (λ zs. grammar.quoted) (λ f. f) (λ ps qs rs f p q. joined p q) (test_cut b t u)

pub atom_cut : {xs ys us : List Token} {f : Filter} → Atom xs f ys → Under xs us → Cut Atom Ending ys us
atom_cut (grammar.compare o p) u = atom_of_sides (oper_cut o u) (λ vs v. oper_cut p v)
atom_cut (grammar.between n l h) u = tested n (between (bounds l h)) u
atom_cut (grammar.not_between n l h) u = tested n (not_between (bounds l h)) u
atom_cut (grammar.among n t) u = tested n (among t) u
atom_cut (grammar.not_among n t) u = tested n (not_among t) u
atom_cut (grammar.is_null n) u = tested n is_null u
atom_cut (grammar.is_not_null n) u = tested n is_not_null u

-- ---- conditions

pub closed_last : (n : ℕ) (zs : List Token) → closers n ++ (Close ∷ zs) ≡ Close ∷ (closers n ++ zs)
closed_last zero zs = refl
closed_last (suc n) zs = ap (λ (ts : List Token). Close ∷ ts) (closed_last n zs)

in_brackets : {ys us : List Token} → Cut (Condition Loose) Ending (Close ∷ ys) us → Cut (Condition Single) Ending ys (Open ∷ us)
in_brackets {us = us} (inside f n e l a r) =
    inside f (suc n) e (λ d. l (suc d)) a (λ zs. grammar.brackets (subst (λ (ts : List Token). Condition Loose (us ++ (f ++ ts)) a (Close ∷ zs)) (closed_last n zs) (r (Close ∷ zs))))
in_brackets (beyond _ cut l a r) = inside [] 1 ends.nothing (λ d. l (suc d)) a (λ zs. grammar.brackets (r (Close ∷ zs)))
in_brackets (beyond _ (keep cuts.closes u) l a r) = beyond _ u (λ d. l (suc d)) a (λ zs. grammar.brackets (r zs))

start_single : {ys : List Token} → Cut (Condition Single) Ending ys []
start_single = made (λ f. f) (λ ps qs a t. grammar.atom t) start

or_cut : {ys zs us : List Token} (both : Filter → Filter → Filter) → ((ps qs rs : List Token) (f g : Filter) → Condition Loose ps f (Key word.Or ∷ qs) → Condition Tight qs g rs → Condition Loose ps (both f g) rs)
    → Cut (Condition Loose) Ending (Key word.Or ∷ ys) us → ((vs : List Token) → Under ys vs → Cut (Condition Tight) Ending zs vs) → Cut (Condition Loose) Ending zs us
or_cut both join (inside f n e l a r) rest = inside f n e l a r
or_cut both join (beyond _ cut l a r) rest = beyond [] cut l a r
or_cut both join (beyond _ (keep {us = vs} cuts.key u) l a r) rest =
    seq {First = λ ps qs. Condition Loose ps a (Key word.Or ∷ qs)} l r (λ g. both a g) (λ ps qs rs g p q. join ps qs rs a g p q) (rest vs u)

and_cut : {ys zs us : List Token} (both : Filter → Filter → Filter) → ((ps qs rs : List Token) (f g : Filter) → Condition Tight ps f (Key word.And ∷ qs) → Condition Single qs g rs → Condition Tight ps (both f g) rs)
    → Cut (Condition Tight) Ending (Key word.And ∷ ys) us → ((vs : List Token) → Under ys vs → Cut (Condition Single) Ending zs vs) → Cut (Condition Tight) Ending zs us
and_cut both join (inside f n e l a r) rest = inside f n e l a r
and_cut both join (beyond _ cut l a r) rest = beyond [] cut l a r
and_cut both join (beyond _ (keep {us = vs} cuts.key u) l a r) rest =
    seq {First = λ ps qs. Condition Tight ps a (Key word.And ∷ qs)} l r (λ g. both a g) (λ ps qs rs g p q. join ps qs rs a g p q) (rest vs u)

pub condition_cut : {strength : Strength} {xs ys us : List Token} {f : Filter} → Condition strength xs f ys → Under xs us → Cut (Condition strength) Ending ys us
condition_cut (grammar.conj c) u = made (λ f. f) (λ ps qs a t. grammar.conj t) (condition_cut c u)
condition_cut (grammar.or {p = p} {q = q} c d) u = or_cut (λ f g. filter.Or' p f q g) (λ ps qs rs f g x y. grammar.or x y) (condition_cut c u) (λ vs v. condition_cut d v)
condition_cut (grammar.neg c) u = made (λ f. f) (λ ps qs a t. grammar.neg t) (condition_cut c u)
condition_cut (grammar.and {p = p} {q = q} c d) u = and_cut (λ f g. filter.And' p f q g) (λ ps qs rs f g x y. grammar.and x y) (condition_cut c u) (λ vs v. condition_cut d v)
condition_cut (grammar.not c) cut = start_single
condition_cut (grammar.not {p = p} c) (keep cuts.key u) = behind (Key word.Not) (λ d. refl) (λ f. filter.Not' p f) (λ ps qs a t. grammar.not t) (condition_cut c u)
condition_cut (grammar.atom a) u = made (λ f. f) (λ ps qs a t. grammar.atom t) (atom_cut a u)
condition_cut (grammar.brackets c) cut = start_single
condition_cut (grammar.brackets c) (keep cuts.opens u) = in_brackets (condition_cut c u)

pub where_cut : {xs ys us : List Token} {f : Option Filter} → Where xs f ys → Under xs us → Cut Where Ending ys us
where_cut grammar.each u = beyond _ u (λ d. refl) None (λ zs. grammar.each)
where_cut (grammar.those c) cut = beyond [] cut (λ d. refl) None (λ zs. grammar.each)
where_cut (grammar.those c) (keep cuts.key u) = behind (Key word.Where) (λ d. refl) (λ f. Some f) (λ ps qs a t. grammar.those t) (condition_cut c u)
