-- Of the same tokens one part is read, and the same tokens follow it: names, literals, lists, comparisons and tests.
use Rattle.std.proofs.Common.{◌≡◌, ℕ, List, [], ◌∷◌, true, false, refl, sym, ap, subst}
use Rattle.inno_types.specs.declared.stmt.Comparison.{Comparison}
use Rattle.inno_types.specs.declared.stmt.Literal.{Literal}
use Rattle.inno_types.specs.declared.stmt.Operand.{Operand}
use Rattle.inno_types.specs.declared.stmt.Operand.TheVariants as operand
use Rattle.inno_types.specs.declared.stmt.Filter.{Filter}
use Rattle.inno_types.specs.declared.stmt.Filter.TheVariants as filter
use Rattle.sql_grammar.specs.declared.token.Word.TheVariants as word
use Rattle.sql_grammar.specs.declared.token.Token.{Token}
use Rattle.sql_grammar.specs.declared.token.Token.TheVariants.{Key, Compare, Comma}
use Rattle.sql_grammar.specs.Grammar.{Name, Lit, Commas, Tuple, Oper, Atom}
use Rattle.sql_grammar.specs.Grammar as grammar

-- ---- one part

-- one thing is read, and what follows is one thing
abbrev pub Same : {A : Type 0} → A → A → List Token → List Token → Type 0
Same a b ys zs = (a ≡ b) × (ys ≡ zs)

pub behind : {x y : Token} {xs ys : List Token} → x ∷ xs ≡ y ∷ ys → xs ≡ ys
behind e = cc

-- one part is read of equal tokens, if one is of the same
pub along : {A : Type 0} (Item : List Token → A → List Token → Type 0) → ((xs ys zs : List Token) (a b : A) → Item xs a ys → Item xs b zs → Same a b ys zs)
    → {xs us ys zs : List Token} {a b : A} → xs ≡ us → Item xs a ys → Item us b zs → Same a b ys zs
along Item one {xs = xs} {ys = ys} {zs = zs} {a = a} {b = b} e i j = one xs ys zs a b i (subst (λ (ts : List Token). Item ts b zs) (sym e) j)

name_one : {xs ys zs : List Token} {a b : List ℕ} → Name xs a ys → Name xs b zs → Same a b ys zs
name_one grammar.bare grammar.bare = (refl, refl)
name_one grammar.quoted grammar.quoted = (refl, refl)

lit_one : {xs ys zs : List Token} {a b : Literal} → Lit xs a ys → Lit xs b zs → Same a b ys zs
lit_one grammar.number grammar.number = (refl, refl)
lit_one grammar.negative grammar.negative = (refl, refl)
lit_one grammar.text grammar.text = (refl, refl)
lit_one grammar.null grammar.null = (refl, refl)

pub name_same : {xs us ys zs : List Token} {a b : List ℕ} → xs ≡ us → Name xs a ys → Name us b zs → Same a b ys zs
name_same e n m = along Name (λ xs ys zs a b n m. name_one n m) e n m

pub lit_same : {xs us ys zs : List Token} {a b : Literal} → xs ≡ us → Lit xs a ys → Lit us b zs → Same a b ys zs
lit_same e n m = along Lit (λ xs ys zs a b l k. lit_one l k) e n m

-- no literal is a name
pub no_name : {A : Type 0} {xs us ys zs : List Token} {a : Literal} {b : List ℕ} → xs ≡ us → Lit xs a ys → Name us b zs → A
no_name e grammar.number grammar.bare = absurd (cc)
no_name e grammar.number grammar.quoted = absurd (cc)
no_name e grammar.negative grammar.bare = absurd (cc)
no_name e grammar.negative grammar.quoted = absurd (cc)
no_name e grammar.text grammar.bare = absurd (cc)
no_name e grammar.text grammar.quoted = absurd (cc)
no_name e grammar.null grammar.bare = absurd (cc)
no_name e grammar.null grammar.quoted = absurd (cc)

-- ---- items with commas between them

-- no comma stands there
abbrev pub BeginsNoComma : List Token → Type 0
BeginsNoComma [] = Unit {0}
BeginsNoComma (Comma ∷ rest) = ⊥
BeginsNoComma (other ∷ rest) = Unit {0}

-- Ends says of the tokens behind an item that it goes on no further.
pub commas_one : {A : Type 0} (Item : List Token → A → List Token → Type 0) (Ends : List Token → Type 0) → ((ys : List Token) → Ends (Comma ∷ ys))
    → ((xs us ys zs : List Token) (a b : A) → xs ≡ us → Item xs a ys → Item us b zs → Ends ys → Ends zs → Same a b ys zs)
    → {xs us ys zs : List Token} {as' bs : List A} → xs ≡ us → Commas Item xs as' ys → Commas Item us bs zs → Ends ys → Ends zs → BeginsNoComma ys
    → BeginsNoComma zs → Same as' bs ys zs
commas_one {A = A} Item Ends comma one {xs = xs} {us = us} {ys = ys} {zs = zs} e (grammar.last {a = a} i) (grammar.last {a = b} j) f g n m =
    let s = one xs us ys zs a b e i j f g in (ap (λ (x : A). x ∷ []) s.0, s.1)
commas_one Item Ends comma one {xs = xs} {us = us} {ys = ys} e (grammar.last {a = a} i) (grammar.more {ys = vs} {a = b} j d) f g n m =
    let s = one xs us ys (Comma ∷ vs) a b e i j f (comma vs) in absurd (subst BeginsNoComma s.1 n)
commas_one Item Ends comma one {xs = xs} {us = us} {zs = zs} e (grammar.more {ys = ws} {a = a} i c) (grammar.last {a = b} j) f g n m =
    let s = one xs us (Comma ∷ ws) zs a b e i j (comma ws) g in absurd (subst BeginsNoComma (sym s.1) m)
commas_one Item Ends comma one {xs = xs} {us = us} e (grammar.more {ys = ws} {a = a} {others = as'} i c) (grammar.more {ys = vs} {a = b} {others = bs} j d) f
    g n m =
    let s = one xs us (Comma ∷ ws) (Comma ∷ vs) a b e i j (comma ws) (comma vs) in
    let t = commas_one Item Ends comma one (behind s.1) c d f g n m in
    (cc, t.1)

-- whatever stands behind
abbrev pub Anything : List Token → Type 0
Anything xs = Unit {0}

pub names_same : {xs us ys zs : List Token} {a b : List (List ℕ)} → xs ≡ us → Commas Name xs a ys → Commas Name us b zs → BeginsNoComma ys
    → BeginsNoComma zs → Same a b ys zs
names_same e c d n m = commas_one Name Anything (λ ys. tt) (λ xs us ys zs a b e i j f g. name_same e i j) e c d tt tt n m

lits_same : {xs us ys zs : List Token} {a b : List Literal} → xs ≡ us → Commas Lit xs a ys → Commas Lit us b zs → BeginsNoComma ys → BeginsNoComma zs
    → Same a b ys zs
lits_same e c d n m = commas_one Lit Anything (λ ys. tt) (λ xs us ys zs a b e i j f g. lit_same e i j) e c d tt tt n m

pub tuple_same : {xs us ys zs : List Token} {a b : List Literal} → xs ≡ us → Tuple xs a ys → Tuple us b zs → Same a b ys zs
tuple_same e (grammar.tuple c) (grammar.tuple d) = let s = lits_same (behind e) c d tt tt in (s.0, behind s.1)

pub tuples_same : {xs us ys zs : List Token} {a b : List (List Literal)} → xs ≡ us → Commas Tuple xs a ys → Commas Tuple us b zs → BeginsNoComma ys
    → BeginsNoComma zs → Same a b ys zs
tuples_same e c d n m = commas_one Tuple Anything (λ ys. tt) (λ xs us ys zs a b e i j f g. tuple_same e i j) e c d tt tt n m

-- ---- comparisons and tests

oper_same : {xs us ys zs : List Token} {a b : Operand} → xs ≡ us → Oper xs a ys → Oper us b zs → Same a b ys zs
oper_same e (grammar.of_literal l) (grammar.of_literal k) = let s = lit_same e l k in (ap operand.Literal s.0, s.1)
oper_same e (grammar.of_literal l) (grammar.of_column n) = no_name e l n
oper_same e (grammar.of_column n) (grammar.of_literal l) = no_name (sym e) l n
oper_same e (grammar.of_column n) (grammar.of_column m) = let s = name_same e n m in (ap operand.Column s.0, s.1)

-- what follows the first operand of a comparison or a test
data Test : Operand → List Token → Filter → List Token → Type 0 where
  compare : {xs ys : List Token} {left right : Operand} {how : Comparison} → Oper xs right ys → Test left (Compare how ∷ xs) (filter.Compare left how right) ys
  between : {xs ys zs : List Token} {name : List ℕ} {low high : Literal} → Lit xs low (Key word.And ∷ ys) → Lit ys high zs
      → Test (operand.Column name) (Key word.Between ∷ xs) (filter.Between name false low high) zs
  not_between : {xs ys zs : List Token} {name : List ℕ} {low high : Literal} → Lit xs low (Key word.And ∷ ys) → Lit ys high zs
      → Test (operand.Column name) (Key word.Not ∷ Key word.Between ∷ xs) (filter.Between name true low high) zs
  among : {xs ys : List Token} {name : List ℕ} {literals : List Literal} → Tuple xs literals ys
      → Test (operand.Column name) (Key word.In ∷ xs) (filter.In name false literals) ys
  not_among : {xs ys : List Token} {name : List ℕ} {literals : List Literal} → Tuple xs literals ys
      → Test (operand.Column name) (Key word.Not ∷ Key word.In ∷ xs) (filter.In name true literals) ys
  is_null : {xs : List Token} {name : List ℕ} → Test (operand.Column name) (Key word.Is ∷ Key word.Null ∷ xs) (filter.IsNull name false) xs
  is_not_null : {xs : List Token} {name : List ℕ} → Test (operand.Column name) (Key word.Is ∷ Key word.Not ∷ Key word.Null ∷ xs) (filter.IsNull name true) xs

test_one : {left : Operand} {xs ys zs : List Token} {f g : Filter} → Test left xs f ys → Test left xs g zs → Same f g ys zs
test_one {left = left} (compare {how = how} o) (compare p) = let s = oper_same refl o p in (ap (λ x. filter.Compare left how x) s.0, s.1)
test_one (between {name = name} l h) (between k i) =
    let s = lit_same refl l k in let t = lit_same (behind s.1) h i in (cc, t.1)
test_one (not_between {name = name} l h) (not_between k i) =
    let s = lit_same refl l k in let t = lit_same (behind s.1) h i in (cc, t.1)
test_one (among {name = name} t) (among u) = let s = tuple_same refl t u in (ap (λ x. filter.In name false x) s.0, s.1)
test_one (not_among {name = name} t) (not_among u) = let s = tuple_same refl t u in (ap (λ x. filter.In name true x) s.0, s.1)
test_one is_null is_null = (refl, refl)
test_one is_not_null is_not_null = (refl, refl)

-- a comparison or a test, from its first operand on
record Tested (xs : List Token) (f : Filter) (ys : List Token) : Type 0 where
  left : Operand
  rest : List Token
  first : Oper xs left rest
  test : Test left rest f ys

tested : {xs ys : List Token} {f : Filter} → Atom xs f ys → Tested xs f ys
tested (grammar.compare o p) = record { left = _; rest = _; first = o; test = compare p }
tested (grammar.between n l h) = record { left = _; rest = _; first = grammar.of_column n; test = between l h }
tested (grammar.not_between n l h) = record { left = _; rest = _; first = grammar.of_column n; test = not_between l h }
tested (grammar.among n t) = record { left = _; rest = _; first = grammar.of_column n; test = among t }
tested (grammar.not_among n t) = record { left = _; rest = _; first = grammar.of_column n; test = not_among t }
tested (grammar.is_null n) = record { left = _; rest = _; first = grammar.of_column n; test = is_null }
tested (grammar.is_not_null n) = record { left = _; rest = _; first = grammar.of_column n; test = is_not_null }

pub atom_one : {xs ys zs : List Token} {f g : Filter} → Atom xs f ys → Atom xs g zs → Same f g ys zs
atom_one {zs = zs} {g = g} a b =
    let t = tested a in let u = tested b in
    let s = oper_same refl t.first u.first in
    let moved = subst (λ (o : Operand). Test o u.rest g zs) (sym s.0) u.test in
    test_one t.test (subst (λ (ts : List Token). Test t.left ts g zs) (sym s.1) moved)
