-- What is spelled so is read: names, literals and lists of them.
use Rattle.std.proofs.Common.{◌≡◌, ℕ, zero, suc, ◌+◌, ◌<◌, ◌≤◌, List, [], ◌∷◌, length, None, Ok, refl, arith}
use Rattle.inno_types.specs.declared.stmt.Literal.{Literal}
use Rattle.sql_grammar.specs.declared.token.Token.{Token}
use Rattle.sql_grammar.specs.declared.token.Token.TheVariants.{Comma}
use Rattle.sql_grammar.specs.Grammar.{Name, Lit, Commas, Tuple}
use Rattle.sql_grammar.specs.Grammar as grammar
use Rattle.sql_conditions.specs.Parts.{Read, name_at, lit_at, after_comma, items_at, commas_at, tuple_at}

-- ---- names and literals

pub name_complete : {xs ys : List Token} {name : List ℕ} → Name xs name ys → name_at xs ≡ Ok (name, ys)
unfolding name_at
name_complete grammar.bare = refl
name_complete grammar.quoted = refl

pub name_shorter : {xs ys : List Token} {name : List ℕ} → Name xs name ys → length ys < length xs
name_shorter grammar.bare = omega arith
name_shorter grammar.quoted = omega arith

pub lit_complete : {xs ys : List Token} {value : Literal} → Lit xs value ys → lit_at xs ≡ Ok (value, ys)
unfolding lit_at
lit_complete grammar.number = refl
lit_complete grammar.negative = refl
lit_complete grammar.text = refl
lit_complete grammar.null = refl

pub lit_shorter : {xs ys : List Token} {value : Literal} → Lit xs value ys → length ys < length xs
lit_shorter grammar.number = omega arith
lit_shorter grammar.negative = omega arith
lit_shorter grammar.text = omega arith
lit_shorter grammar.null = omega arith

-- ---- items with commas between them

-- no comma stands there
abbrev pub BeginsNoComma : List Token → Type 0
BeginsNoComma [] = Unit {0}
BeginsNoComma (Comma ∷ rest) = ⊥
BeginsNoComma (other ∷ rest) = Unit {0}

no_comma : (xs : List Token) → BeginsNoComma xs → after_comma xs ≡ None
no_comma [] h = refl
no_comma (Comma ∷ rest) h = absurd h
no_comma (other ∷ rest) h = refl

module _ {A : Type 0} (item : List Token → Read A) (Item : List Token → A → List Token → Type 0) (Ends : List Token → Type 0) (comma : (ys : List Token) → Ends (Comma ∷ ys)) (complete : (xs ys : List Token) (a : A) → Item xs a ys → Ends ys → item xs ≡ Ok (a, ys)) (shorter : (xs ys : List Token) (a : A) → Item xs a ys → length ys < length xs) where
  pub commas_short : {xs ys : List Token} {items : List A} → Commas Item xs items ys → length items + length ys ≤ length xs
  commas_short {xs = xs} {ys = ys} (grammar.last {a = a} i) = omega (arith, shorter xs ys a i)
  commas_short {xs = xs} {ys = zs} (grammar.more {ys = ys} {a = a} i c) = omega (arith, shorter xs (Comma ∷ ys) a i, commas_short c)

  items_complete : {xs ys : List Token} {items : List A} → Commas Item xs items ys → BeginsNoComma ys → Ends ys → (n : ℕ) → length items ≤ n → items_at item n xs ≡ Ok (items, ys)
  unfolding items_at
  items_complete c apart ends zero le = nothing c le
    where
      nothing : {xs ys : List Token} {items : List A} → Commas Item xs items ys → length items ≤ 0 → items_at item zero xs ≡ Ok (items, ys)
      nothing (grammar.last i) le = absurd (omega arith)
      nothing (grammar.more i c) le = absurd (omega arith)
  items_complete {xs = xs} {ys = ys} (grammar.last {a = a} i) apart ends (suc n) le = rw (complete xs ys a i ends, no_comma ys apart) refl
  items_complete {xs = xs} {ys = zs} (grammar.more {ys = ys} {a = a} {others = others} i c) apart ends (suc n) le =
      let rest = items_complete {xs = ys} {ys = zs} {items = others} c apart ends n (omega arith) in
      rw (complete xs (Comma ∷ ys) a i (comma ys), rest) refl

  pub commas_complete : {xs ys : List Token} {items : List A} → Commas Item xs items ys → BeginsNoComma ys → Ends ys → commas_at item xs ≡ Ok (items, ys)
  commas_complete {xs = xs} c apart ends = items_complete c apart ends (length xs) (omega (arith, commas_short c))

-- whatever stands behind
abbrev pub Anything : List Token → Type 0
Anything xs = Unit {0}

pub names_complete : {xs ys : List Token} {names : List (List ℕ)} → Commas Name xs names ys → BeginsNoComma ys → commas_at name_at xs ≡ Ok (names, ys)
names_complete c apart = commas_complete name_at Name Anything (λ ys. tt) (λ xs ys a n e. name_complete n) (λ xs ys a n. name_shorter n) c apart tt

pub lits_complete : {xs ys : List Token} {literals : List Literal} → Commas Lit xs literals ys → BeginsNoComma ys → commas_at lit_at xs ≡ Ok (literals, ys)
lits_complete c apart = commas_complete lit_at Lit Anything (λ ys. tt) (λ xs ys a l e. lit_complete l) (λ xs ys a l. lit_shorter l) c apart tt

pub tuple_complete : {xs ys : List Token} {literals : List Literal} → Tuple xs literals ys → tuple_at xs ≡ Ok (literals, ys)
unfolding tuple_at
tuple_complete (grammar.tuple c) = rw (lits_complete c tt) refl

lits_short : {xs ys : List Token} {literals : List Literal} → Commas Lit xs literals ys → length literals + length ys ≤ length xs
lits_short c = commas_short lit_at Lit Anything (λ ys. tt) (λ xs ys a l e. lit_complete l) (λ xs ys a l. lit_shorter l) c

pub tuple_shorter : {xs ys : List Token} {literals : List Literal} → Tuple xs literals ys → length ys < length xs
tuple_shorter (grammar.tuple c) = omega (arith, lits_short c)

pub tuples_complete : {xs ys : List Token} {tuples : List (List Literal)} → Commas Tuple xs tuples ys → BeginsNoComma ys → commas_at tuple_at xs ≡ Ok (tuples, ys)
tuples_complete c apart = commas_complete tuple_at Tuple Anything (λ ys. tt) (λ xs ys a t e. tuple_complete t) (λ xs ys a t. tuple_shorter t) c apart tt
