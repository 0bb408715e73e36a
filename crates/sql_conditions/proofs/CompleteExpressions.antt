-- What is spelled so is read: expressions.
use Rattle.std.proofs.Common.{◌≡◌, ℕ, suc, ◌+◌, ◌-◌, ◌<◌, ◌≤◌, List, [], ◌∷◌, length, Result, Ok, refl, sym, ap, ◌∙◌, arith, add_assoc}
use Rattle.inno_types.specs.declared.stmt.Expr.{Expr}
use Rattle.inno_types.specs.declared.stmt.Literal.{Literal}
use Rattle.sql_grammar.specs.declared.token.Token.{Token}
use Rattle.sql_grammar.specs.declared.token.Token.TheVariants.{Number, Open, Close, Star, Plus, Minus}
use Rattle.sql_grammar.specs.Grammar.{Expression, Strength, Loose, Tight, Single, Name, Lit, BeginsNoNumber}
use Rattle.sql_grammar.specs.Grammar as grammar
use Rattle.sql_conditions.specs.Parts.{◌>>=◌, lit_at}
use Rattle.sql_conditions.specs.Expressions as read
use Rattle.sql_conditions.specs.Expressions.{Mark, Negation, Bracket, Product, Sum, Difference, settle, steps, resume, operand_step, value_step, value_at, after_expression, follow_of, opening_of, close, BeginsNoStar}
use Rattle.sql_conditions.proofs.Complete.{lit_shorter, name_shorter}

-- at most n steps from behind an operand
abbrev behind : ℕ → List Mark → List Token → Result (List Token) (List Token)
behind n waiting tokens = settle waiting tokens >>= λ stage. resume (steps n) stage

abbrev MayTimes : List Mark → Type 0
MayTimes [] = Unit {0}
MayTimes (Negation ∷ below) = ⊥
MayTimes (Bracket ∷ below) = Unit {0}
MayTimes (Product ∷ below) = ⊥
MayTimes (Sum ∷ below) = Unit {0}
MayTimes (Difference ∷ below) = Unit {0}

abbrev MayAdd : List Mark → Type 0
MayAdd [] = Unit {0}
MayAdd (Negation ∷ below) = ⊥
MayAdd (Bracket ∷ below) = Unit {0}
MayAdd (Product ∷ below) = ⊥
MayAdd (Sum ∷ below) = ⊥
MayAdd (Difference ∷ below) = ⊥

settle_times : (waiting : List Mark) (rest : List Token) → MayTimes waiting → settle waiting (Star ∷ rest) ≡ Ok (read.More (Product ∷ waiting) rest)
unfolding settle close follow_of
settle_times [] rest h = refl
settle_times (Negation ∷ below) rest h = absurd h
settle_times (Bracket ∷ below) rest h = refl
settle_times (Product ∷ below) rest h = absurd h
settle_times (Sum ∷ below) rest h = refl
settle_times (Difference ∷ below) rest h = refl

settle_plus : (waiting : List Mark) (rest : List Token) → MayAdd waiting → settle waiting (Plus ∷ rest) ≡ Ok (read.More (Sum ∷ waiting) rest)
unfolding settle close follow_of
settle_plus [] rest h = refl
settle_plus (Negation ∷ below) rest h = absurd h
settle_plus (Bracket ∷ below) rest h = refl
settle_plus (Product ∷ below) rest h = absurd h
settle_plus (Sum ∷ below) rest h = absurd h
settle_plus (Difference ∷ below) rest h = absurd h

settle_minus : (waiting : List Mark) (rest : List Token) → MayAdd waiting → settle waiting (Minus ∷ rest) ≡ Ok (read.More (Difference ∷ waiting) rest)
unfolding settle close follow_of
settle_minus [] rest h = refl
settle_minus (Negation ∷ below) rest h = absurd h
settle_minus (Bracket ∷ below) rest h = refl
settle_minus (Product ∷ below) rest h = absurd h
settle_minus (Sum ∷ below) rest h = absurd h
settle_minus (Difference ∷ below) rest h = absurd h

settle_negation : (below : List Mark) (rest : List Token) → settle (Negation ∷ below) rest ≡ settle below rest
unfolding settle close
settle_negation below rest = refl

settle_product : (below : List Mark) (rest : List Token) → settle (Product ∷ below) rest ≡ settle below rest
unfolding settle close
settle_product below rest = refl

settle_sum : (below : List Mark) (rest : List Token) → BeginsNoStar rest → settle (Sum ∷ below) rest ≡ settle below rest
unfolding settle close follow_of
settle_sum below [] h = refl
settle_sum below (Star ∷ rest) h = absurd h
settle_sum below (Plus ∷ rest) h = refl
settle_sum below (Minus ∷ rest) h = refl
settle_sum below (Close ∷ rest) h = refl
settle_sum below (other ∷ rest) h = refl

settle_difference : (below : List Mark) (rest : List Token) → BeginsNoStar rest → settle (Difference ∷ below) rest ≡ settle below rest
unfolding settle close follow_of
settle_difference below [] h = refl
settle_difference below (Star ∷ rest) h = absurd h
settle_difference below (Plus ∷ rest) h = refl
settle_difference below (Minus ∷ rest) h = refl
settle_difference below (Close ∷ rest) h = refl
settle_difference below (other ∷ rest) h = refl

settle_bracket : (below : List Mark) (rest : List Token) → settle (Bracket ∷ below) (Close ∷ rest) ≡ settle below rest
unfolding settle close follow_of
settle_bracket below rest = refl

literal_reads : {xs ys : List Token} {value : Literal} → Lit xs value ys → (n : ℕ) (waiting : List Mark) → steps (suc n) waiting xs ≡ behind n waiting ys
unfolding steps operand_step opening_of value_step value_at lit_at
literal_reads grammar.number n waiting = refl
literal_reads grammar.negative n waiting = refl
literal_reads grammar.text n waiting = refl
literal_reads grammar.null n waiting = refl

column_reads : {xs ys : List Token} {name : List ℕ} → Name xs name ys → (n : ℕ) (waiting : List Mark) → steps (suc n) waiting xs ≡ behind n waiting ys
unfolding steps operand_step opening_of value_step value_at
column_reads grammar.bare n waiting = refl
column_reads grammar.quoted n waiting = refl

negate_reads : (n : ℕ) (waiting : List Mark) (xs : List Token) → BeginsNoNumber xs → steps (suc n) waiting (Minus ∷ xs) ≡ steps n (Negation ∷ waiting) xs
unfolding steps operand_step opening_of
negate_reads n waiting [] h = refl
negate_reads n waiting (Number digits ∷ xs) h = absurd h
negate_reads n waiting (other ∷ xs) h = refl

open_reads : (n : ℕ) (waiting : List Mark) (xs : List Token) → steps (suc n) waiting (Open ∷ xs) ≡ steps n (Bracket ∷ waiting) xs
unfolding steps operand_step opening_of
open_reads n waiting xs = refl

-- where a part of this strength may stand, and what may stand behind it
abbrev MayStand : Strength → List Mark → List Token → Type 0
MayStand Loose waiting rest = MayAdd waiting × BeginsNoStar rest
MayStand Tight waiting rest = MayTimes waiting
MayStand Single waiting rest = Unit {0}

-- so many steps read the part
record IsRead (s : Strength) (xs ys : List Token) : Type 0 where
  pub taken : ℕ
  pub within : taken + length ys ≤ length xs
  pub reads : (n : ℕ) (waiting : List Mark) → MayStand s waiting ys → steps (taken + n) waiting xs ≡ behind n waiting ys

add_may_times : (waiting : List Mark) → MayAdd waiting → MayTimes waiting
add_may_times [] h = tt
add_may_times (Negation ∷ below) h = h
add_may_times (Bracket ∷ below) h = tt
add_may_times (Product ∷ below) h = h
add_may_times (Sum ∷ below) h = absurd h
add_may_times (Difference ∷ below) h = absurd h

one_more : (m n : ℕ) → suc m + n ≡ suc (m + n)
one_more m n = omega arith

is_read : {s : Strength} {xs ys : List Token} {e : Expr} → Expression s xs e ys → IsRead s xs ys
is_read (grammar.of_literal l) = record {
  taken = 1;
  within = omega (arith, lit_shorter l);
  reads = λ n waiting h. let e : 1 + n ≡ suc n = omega arith in rw e (literal_reads l n waiting);
}
is_read (grammar.of_column c) = record {
  taken = 1;
  within = omega (arith, name_shorter c);
  reads = λ n waiting h. let e : 1 + n ≡ suc n = omega arith in rw e (column_reads c n waiting);
}
is_read (grammar.negate {xs = xs} {ys = ys} b c) = let r = is_read c in record {
  taken = suc r.taken;
  within = omega (arith, r.within);
  reads = λ n waiting h. ap (λ k. steps k waiting (Minus ∷ xs)) (one_more r.taken n) ∙ negate_reads (r.taken + n) waiting xs b ∙ r.reads n (Negation ∷ waiting) tt ∙ ap (λ t. t >>= λ stage. resume (steps n) stage) (settle_negation waiting ys);
}
is_read (grammar.brackets {xs = xs} {ys = ys} c) = let r = is_read c in record {
  taken = suc r.taken;
  within = omega (arith, r.within);
  reads = λ n waiting h. ap (λ k. steps k waiting (Open ∷ xs)) (one_more r.taken n) ∙ open_reads (r.taken + n) waiting xs ∙ r.reads n (Bracket ∷ waiting) (tt, tt) ∙ ap (λ t. t >>= λ stage. resume (steps n) stage) (settle_bracket waiting ys);
}
is_read (grammar.factor c) = let r = is_read c in record { taken = r.taken; within = r.within; reads = λ n waiting h. r.reads n waiting tt }
is_read (grammar.term c) = let r = is_read c in record { taken = r.taken; within = r.within; reads = λ n waiting h. r.reads n waiting (add_may_times waiting h.0) }
is_read (grammar.times {xs = xs} {ys = ys} {zs = zs} c d) = let r = is_read c in let q = is_read d in record {
  taken = r.taken + q.taken;
  within = omega (arith, r.within, q.within);
  reads = λ n waiting h. ap (λ k. steps k waiting xs) (add_assoc r.taken q.taken n) ∙ r.reads (q.taken + n) waiting h ∙ ap (λ t. t >>= λ stage. resume (steps (q.taken + n)) stage) (settle_times waiting ys h) ∙ q.reads n (Product ∷ waiting) tt ∙ ap (λ t. t >>= λ stage. resume (steps n) stage) (settle_product waiting zs);
}
is_read (grammar.plus {xs = xs} {ys = ys} {zs = zs} c d) = let r = is_read c in let q = is_read d in record {
  taken = r.taken + q.taken;
  within = omega (arith, r.within, q.within);
  reads = λ n waiting h. ap (λ k. steps k waiting xs) (add_assoc r.taken q.taken n) ∙ r.reads (q.taken + n) waiting (h.0, tt) ∙ ap (λ t. t >>= λ stage. resume (steps (q.taken + n)) stage) (settle_plus waiting ys h.0) ∙ q.reads n (Sum ∷ waiting) tt ∙ ap (λ t. t >>= λ stage. resume (steps n) stage) (settle_sum waiting zs h.1);
}
is_read (grammar.minus {xs = xs} {ys = ys} {zs = zs} c d) = let r = is_read c in let q = is_read d in record {
  taken = r.taken + q.taken;
  within = omega (arith, r.within, q.within);
  reads = λ n waiting h. ap (λ k. steps k waiting xs) (add_assoc r.taken q.taken n) ∙ r.reads (q.taken + n) waiting (h.0, tt) ∙ ap (λ t. t >>= λ stage. resume (steps (q.taken + n)) stage) (settle_minus waiting ys h.0) ∙ q.reads n (Difference ∷ waiting) tt ∙ ap (λ t. t >>= λ stage. resume (steps n) stage) (settle_difference waiting zs h.1);
}

-- no operator stands there
abbrev pub BeginsNoOperator : List Token → Type 0
BeginsNoOperator [] = Unit {0}
BeginsNoOperator (Star ∷ rest) = ⊥
BeginsNoOperator (Plus ∷ rest) = ⊥
BeginsNoOperator (Minus ∷ rest) = ⊥
BeginsNoOperator (other ∷ rest) = Unit {0}

no_star : (xs : List Token) → BeginsNoOperator xs → BeginsNoStar xs
no_star [] h = tt
no_star (Star ∷ rest) h = h
no_star (Plus ∷ rest) h = tt
no_star (Minus ∷ rest) h = tt
no_star (other ∷ rest) h = tt

settle_whole : (xs : List Token) → BeginsNoOperator xs → settle [] xs ≡ Ok (read.Whole xs)
unfolding settle follow_of
settle_whole [] h = refl
settle_whole (Star ∷ rest) h = absurd h
settle_whole (Plus ∷ rest) h = absurd h
settle_whole (Minus ∷ rest) h = absurd h
settle_whole (Close ∷ rest) h = refl
settle_whole (other ∷ rest) h = refl

pub expression_complete : (xs ys : List Token) (e : Expr) → Expression Loose xs e ys → BeginsNoOperator ys → after_expression xs ≡ Ok ys
expression_complete xs ys e c h =
    let r = is_read c in
    let left : r.taken + (length xs - r.taken) ≡ length xs = omega (arith, r.within) in
    ap (λ k. steps k [] xs) (sym left) ∙ r.reads (length xs - r.taken) [] (tt, no_star ys h) ∙ ap (λ t. t >>= λ stage. resume (steps (length xs - r.taken)) stage) (settle_whole ys h)

pub expression_shorter : {s : Strength} {xs ys : List Token} {e : Expr} → Expression s xs e ys → length ys < length xs
expression_shorter (grammar.of_literal l) = lit_shorter l
expression_shorter (grammar.of_column n) = name_shorter n
expression_shorter (grammar.negate b c) = omega (arith, expression_shorter c)
expression_shorter (grammar.brackets c) = omega (arith, expression_shorter c)
expression_shorter (grammar.factor c) = expression_shorter c
expression_shorter (grammar.term c) = expression_shorter c
expression_shorter (grammar.times c d) = omega (arith, expression_shorter c, expression_shorter d)
expression_shorter (grammar.plus c d) = omega (arith, expression_shorter c, expression_shorter d)
expression_shorter (grammar.minus c d) = omega (arith, expression_shorter c, expression_shorter d)
