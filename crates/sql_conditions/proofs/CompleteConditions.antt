-- What is spelled so is read: conditions.
use Rattle.std.proofs.Common.{◌≡◌, ℕ, suc, ◌+◌, ◌-◌, ◌<◌, ◌≤◌, List, [], ◌∷◌, length, Result, Ok, refl, sym, ap, ◌∙◌, arith, add_assoc}
use Rattle.inno_types.specs.declared.stmt.Filter.{Filter}
use Rattle.sql_grammar.specs.declared.token.Word.TheVariants as word
use Rattle.sql_grammar.specs.declared.token.Token.{Token}
use Rattle.sql_grammar.specs.declared.token.Token.TheVariants.{Key, Open, Close}
use Rattle.sql_grammar.specs.Grammar.{Condition, Strength, Loose, Tight, Single, Atom}
use Rattle.sql_grammar.specs.Grammar as grammar
use Rattle.sql_conditions.specs.Parts.{◌>>=◌}
use Rattle.sql_conditions.specs.Conditions as read
use Rattle.sql_conditions.specs.Conditions.{Mark, Negation, Bracket, Conjunction, Disjunction, settle, steps, resume, operand_step, atom_step, after_condition, follow_of, close, BeginsNoAnd}
use Rattle.sql_conditions.proofs.CompleteAtoms.{atom_complete, atom_shorter}

-- at most n steps from behind an operand
abbrev behind : ℕ → List Mark → List Token → Result (List Token) (List Token)
behind n waiting tokens = settle waiting tokens >>= λ stage. resume (steps n) stage

abbrev MayAnd : List Mark → Type 0
MayAnd [] = Unit {0}
MayAnd (Negation ∷ below) = ⊥
MayAnd (Bracket ∷ below) = Unit {0}
MayAnd (Conjunction ∷ below) = ⊥
MayAnd (Disjunction ∷ below) = Unit {0}

abbrev MayOr : List Mark → Type 0
MayOr [] = Unit {0}
MayOr (Negation ∷ below) = ⊥
MayOr (Bracket ∷ below) = Unit {0}
MayOr (Conjunction ∷ below) = ⊥
MayOr (Disjunction ∷ below) = ⊥

settle_and : (waiting : List Mark) (rest : List Token) → MayAnd waiting → settle waiting (Key word.And ∷ rest) ≡ Ok (read.More (Conjunction ∷ waiting) rest)
unfolding settle close follow_of
settle_and [] rest h = refl
settle_and (Negation ∷ below) rest h = absurd h
settle_and (Bracket ∷ below) rest h = refl
settle_and (Conjunction ∷ below) rest h = absurd h
settle_and (Disjunction ∷ below) rest h = refl

settle_or : (waiting : List Mark) (rest : List Token) → MayOr waiting → settle waiting (Key word.Or ∷ rest) ≡ Ok (read.More (Disjunction ∷ waiting) rest)
unfolding settle close follow_of
settle_or [] rest h = refl
settle_or (Negation ∷ below) rest h = absurd h
settle_or (Bracket ∷ below) rest h = refl
settle_or (Conjunction ∷ below) rest h = absurd h
settle_or (Disjunction ∷ below) rest h = absurd h

settle_negation : (below : List Mark) (rest : List Token) → settle (Negation ∷ below) rest ≡ settle below rest
unfolding settle close
settle_negation below rest = refl

settle_conjunction : (below : List Mark) (rest : List Token) → settle (Conjunction ∷ below) rest ≡ settle below rest
unfolding settle close
settle_conjunction below rest = refl

settle_disjunction : (below : List Mark) (rest : List Token) → BeginsNoAnd rest → settle (Disjunction ∷ below) rest ≡ settle below rest
unfolding settle close follow_of
settle_disjunction below [] h = refl
settle_disjunction below (Key word.And ∷ rest) h = absurd h
settle_disjunction below (Key word.Or ∷ rest) h = refl
settle_disjunction below (Close ∷ rest) h = refl
settle_disjunction below (other ∷ rest) h = refl

settle_bracket : (below : List Mark) (rest : List Token) → settle (Bracket ∷ below) (Close ∷ rest) ≡ settle below rest
unfolding settle close follow_of
settle_bracket below rest = refl

-- an atom begins with neither NOT nor a bracket
atom_opens : {xs ys : List Token} {f : Filter} → (waiting : List Mark) → Atom xs f ys → operand_step waiting xs ≡ atom_step waiting xs
unfolding operand_step
atom_opens waiting (grammar.compare (grammar.of_literal grammar.number) p) = refl
atom_opens waiting (grammar.compare (grammar.of_literal grammar.negative) p) = refl
atom_opens waiting (grammar.compare (grammar.of_literal grammar.text) p) = refl
atom_opens waiting (grammar.compare (grammar.of_literal grammar.null) p) = refl
atom_opens waiting (grammar.compare (grammar.of_column grammar.bare) p) = refl
atom_opens waiting (grammar.compare (grammar.of_column grammar.quoted) p) = refl
atom_opens waiting (grammar.between grammar.bare l h) = refl
atom_opens waiting (grammar.between grammar.quoted l h) = refl
atom_opens waiting (grammar.not_between grammar.bare l h) = refl
atom_opens waiting (grammar.not_between grammar.quoted l h) = refl
atom_opens waiting (grammar.among grammar.bare t) = refl
atom_opens waiting (grammar.among grammar.quoted t) = refl
atom_opens waiting (grammar.not_among grammar.bare t) = refl
atom_opens waiting (grammar.not_among grammar.quoted t) = refl
atom_opens waiting (grammar.is_null grammar.bare) = refl
atom_opens waiting (grammar.is_null grammar.quoted) = refl
atom_opens waiting (grammar.is_not_null grammar.bare) = refl
atom_opens waiting (grammar.is_not_null grammar.quoted) = refl

atom_reads : {xs ys : List Token} {f : Filter} → Atom xs f ys → (n : ℕ) (waiting : List Mark) → steps (suc n) waiting xs ≡ behind n waiting ys
unfolding steps atom_step
atom_reads a n waiting = rw (atom_opens waiting a, atom_complete a) refl

not_reads : (n : ℕ) (waiting : List Mark) (xs : List Token) → steps (suc n) waiting (Key word.Not ∷ xs) ≡ steps n (Negation ∷ waiting) xs
unfolding steps operand_step
not_reads n waiting xs = refl

open_reads : (n : ℕ) (waiting : List Mark) (xs : List Token) → steps (suc n) waiting (Open ∷ xs) ≡ steps n (Bracket ∷ waiting) xs
unfolding steps operand_step
open_reads n waiting xs = refl

-- where a part of this strength may stand, and what may stand behind it
abbrev MayStand : Strength → List Mark → List Token → Type 0
MayStand Loose waiting rest = MayOr waiting × BeginsNoAnd rest
MayStand Tight waiting rest = MayAnd waiting
MayStand Single waiting rest = Unit {0}

-- so many steps read the part
record IsRead (s : Strength) (xs ys : List Token) : Type 0 where
  pub taken : ℕ
  pub within : taken + length ys ≤ length xs
  pub reads : (n : ℕ) (waiting : List Mark) → MayStand s waiting ys → steps (taken + n) waiting xs ≡ behind n waiting ys

or_may_and : (waiting : List Mark) → MayOr waiting → MayAnd waiting
or_may_and [] h = tt
or_may_and (Negation ∷ below) h = h
or_may_and (Bracket ∷ below) h = tt
or_may_and (Conjunction ∷ below) h = h
or_may_and (Disjunction ∷ below) h = absurd h

one_more : (m n : ℕ) → suc m + n ≡ suc (m + n)
one_more m n = omega arith

is_read : {s : Strength} {xs ys : List Token} {f : Filter} → Condition s xs f ys → IsRead s xs ys
is_read (grammar.atom {xs = xs} {ys = ys} a) = record {
  taken = 1;
  within = omega (arith, atom_shorter a);
  reads = λ n waiting h. let e : 1 + n ≡ suc n = omega arith in rw e (atom_reads a n waiting);
}
is_read (grammar.not {xs = xs} {ys = ys} c) = let r = is_read c in record {
  taken = suc r.taken;
  within = omega (arith, r.within);
  reads = λ n waiting h. ap (λ k. steps k waiting (Key word.Not ∷ xs)) (one_more r.taken n) ∙ not_reads (r.taken + n) waiting xs ∙ r.reads n (Negation ∷ waiting) tt ∙ ap (λ t. t >>= λ stage. resume (steps n) stage) (settle_negation waiting ys);
}
is_read (grammar.brackets {xs = xs} {ys = ys} c) = let r = is_read c in record {
  taken = suc r.taken;
  within = omega (arith, r.within);
  reads = λ n waiting h. ap (λ k. steps k waiting (Open ∷ xs)) (one_more r.taken n) ∙ open_reads (r.taken + n) waiting xs ∙ r.reads n (Bracket ∷ waiting) (tt, tt) ∙ ap (λ t. t >>= λ stage. resume (steps n) stage) (settle_bracket waiting ys);
}
is_read (grammar.neg c) = let r = is_read c in record { taken = r.taken; within = r.within; reads = λ n waiting h. r.reads n waiting tt }
is_read (grammar.conj c) = let r = is_read c in record { taken = r.taken; within = r.within; reads = λ n waiting h. r.reads n waiting (or_may_and waiting h.0) }
is_read (grammar.and {xs = xs} {ys = ys} {zs = zs} c d) = let r = is_read c in let q = is_read d in record {
  taken = r.taken + q.taken;
  within = omega (arith, r.within, q.within);
  reads = λ n waiting h. ap (λ k. steps k waiting xs) (add_assoc r.taken q.taken n) ∙ r.reads (q.taken + n) waiting h ∙ ap (λ t. t >>= λ stage. resume (steps (q.taken + n)) stage) (settle_and waiting ys h) ∙ q.reads n (Conjunction ∷ waiting) tt ∙ ap (λ t. t >>= λ stage. resume (steps n) stage) (settle_conjunction waiting zs);
}
is_read (grammar.or {xs = xs} {ys = ys} {zs = zs} c d) = let r = is_read c in let q = is_read d in record {
  taken = r.taken + q.taken;
  within = omega (arith, r.within, q.within);
  reads = λ n waiting h. ap (λ k. steps k waiting xs) (add_assoc r.taken q.taken n) ∙ r.reads (q.taken + n) waiting (h.0, tt) ∙ ap (λ t. t >>= λ stage. resume (steps (q.taken + n)) stage) (settle_or waiting ys h.0) ∙ q.reads n (Disjunction ∷ waiting) tt ∙ ap (λ t. t >>= λ stage. resume (steps n) stage) (settle_disjunction waiting zs h.1);
}

-- neither AND nor OR stands there
abbrev pub BeginsNoOperator : List Token → Type 0
BeginsNoOperator [] = Unit {0}
BeginsNoOperator (Key word.And ∷ rest) = ⊥
BeginsNoOperator (Key word.Or ∷ rest) = ⊥
BeginsNoOperator (other ∷ rest) = Unit {0}

no_and : (xs : List Token) → BeginsNoOperator xs → BeginsNoAnd xs
no_and [] h = tt
no_and (Key word.And ∷ rest) h = h
no_and (Key word.Or ∷ rest) h = tt
no_and (other ∷ rest) h = tt

settle_whole : (xs : List Token) → BeginsNoOperator xs → settle [] xs ≡ Ok (read.Whole xs)
unfolding settle follow_of
settle_whole [] h = refl
settle_whole (Key word.And ∷ rest) h = absurd h
settle_whole (Key word.Or ∷ rest) h = absurd h
settle_whole (Close ∷ rest) h = refl
settle_whole (other ∷ rest) h = refl

pub condition_complete : (xs ys : List Token) (f : Filter) → Condition Loose xs f ys → BeginsNoOperator ys → after_condition xs ≡ Ok ys
condition_complete xs ys f c h =
    let r = is_read c in
    let left : r.taken + (length xs - r.taken) ≡ length xs = omega (arith, r.within) in
    ap (λ k. steps k [] xs) (sym left) ∙ r.reads (length xs - r.taken) [] (tt, no_and ys h) ∙ ap (λ t. t >>= λ stage. resume (steps (length xs - r.taken)) stage) (settle_whole ys h)

pub condition_shorter : {s : Strength} {xs ys : List Token} {f : Filter} → Condition s xs f ys → length ys < length xs
condition_shorter (grammar.atom a) = atom_shorter a
condition_shorter (grammar.not c) = omega (arith, condition_shorter c)
condition_shorter (grammar.brackets c) = omega (arith, condition_shorter c)
condition_shorter (grammar.neg c) = condition_shorter c
condition_shorter (grammar.conj c) = condition_shorter c
condition_shorter (grammar.and c d) = omega (arith, condition_shorter c, condition_shorter d)
condition_shorter (grammar.or c d) = omega (arith, condition_shorter c, condition_shorter d)
