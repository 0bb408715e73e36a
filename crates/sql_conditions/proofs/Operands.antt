-- What an operand of an expression with the frame below it stands for.
use Rattle.std.proofs.Common.{◌≡◌, List, [], ◌∷◌, Result, Ok, Err, refl, sym, ap, subst}
use Rattle.inno_types.specs.declared.stmt.Expr.{Expr}
use Rattle.inno_types.specs.declared.stmt.Expr.TheVariants as expr
use Rattle.sql_grammar.specs.declared.token.Token.{Token}
use Rattle.sql_grammar.specs.declared.token.Token.TheVariants.{Number, Open, Close, Star, Plus, Minus}
use Rattle.sql_grammar.specs.Grammar.{Expression, Strength, Loose, Tight, Single, BeginsNoNumber}
use Rattle.sql_grammar.specs.Grammar as grammar
use Rattle.sql_conditions.specs.declared.expressions.Frame.{Frame}
use Rattle.sql_conditions.specs.declared.expressions.Frame.TheVariants as frame
use Rattle.sql_conditions.specs.declared.expressions.Next.{Next}
use Rattle.sql_conditions.specs.declared.expressions.Next.TheVariants as next
use Rattle.sql_conditions.specs.Expressions as read
use Rattle.sql_conditions.specs.Expressions.{HasOperand, Stands, Allows, AllowsTight, AllowsLoose, BeginsNoStar, follow_of, Follow, marks, mark_of, close, opening_of}

pub loosely : {xs ys : List Token} {e : Expr} → (s : Strength) → Expression s xs e ys → Expression Loose xs e ys
loosely Loose c = c
loosely Tight c = grammar.term c
loosely Single c = grammar.term (grammar.factor c)

-- ---- what stands behind an operand

times_follows : (tokens rest : List Token) → follow_of tokens ≡ read.Times rest → tokens ≡ Star ∷ rest
unfolding follow_of
times_follows [] rest e = cc
times_follows (Star ∷ tokens) rest e = let same : tokens ≡ rest = cc in ap (λ (r : List Token). Star ∷ r) same
times_follows (Plus ∷ tokens) rest e = cc
times_follows (Minus ∷ tokens) rest e = cc
times_follows (Close ∷ tokens) rest e = cc
times_follows (other ∷ tokens) rest e = cc

plus_follows : (tokens rest : List Token) → follow_of tokens ≡ read.Adding rest → tokens ≡ Plus ∷ rest
unfolding follow_of
plus_follows [] rest e = cc
plus_follows (Star ∷ tokens) rest e = cc
plus_follows (Plus ∷ tokens) rest e = let same : tokens ≡ rest = cc in ap (λ (r : List Token). Plus ∷ r) same
plus_follows (Minus ∷ tokens) rest e = cc
plus_follows (Close ∷ tokens) rest e = cc
plus_follows (other ∷ tokens) rest e = cc

minus_follows : (tokens rest : List Token) → follow_of tokens ≡ read.Subtracting rest → tokens ≡ Minus ∷ rest
unfolding follow_of
minus_follows [] rest e = cc
minus_follows (Star ∷ tokens) rest e = cc
minus_follows (Plus ∷ tokens) rest e = cc
minus_follows (Minus ∷ tokens) rest e = let same : tokens ≡ rest = cc in ap (λ (r : List Token). Minus ∷ r) same
minus_follows (Close ∷ tokens) rest e = cc
minus_follows (other ∷ tokens) rest e = cc

closing_follows : (tokens rest : List Token) → follow_of tokens ≡ read.Closing rest → tokens ≡ Close ∷ rest
unfolding follow_of
closing_follows [] rest e = cc
closing_follows (Star ∷ tokens) rest e = cc
closing_follows (Plus ∷ tokens) rest e = cc
closing_follows (Minus ∷ tokens) rest e = cc
closing_follows (Close ∷ tokens) rest e = let same : tokens ≡ rest = cc in ap (λ (r : List Token). Close ∷ r) same
closing_follows (other ∷ tokens) rest e = cc

-- no `*` follows
abbrev pub NoStar : Follow → Type 0
NoStar (read.Times rest) = ⊥
NoStar (read.Adding rest) = Unit {0}
NoStar (read.Subtracting rest) = Unit {0}
NoStar (read.Closing rest) = Unit {0}
NoStar read.Other = Unit {0}

no_star_follows : (tokens : List Token) → NoStar (follow_of tokens) → BeginsNoStar tokens
unfolding follow_of
no_star_follows [] h = tt
no_star_follows (Star ∷ tokens) h = h
no_star_follows (Plus ∷ tokens) h = tt
no_star_follows (Minus ∷ tokens) h = tt
no_star_follows (Close ∷ tokens) h = tt
no_star_follows (other ∷ tokens) h = tt

-- ---- an operand with the frame below it

negate_closes : (all : List Token) (below : List Frame) (f : Expr) (p : _) (tokens : List Token) (s : Strength) (start : List Token) → Expression s start f tokens → Allows s (frame.Negate ∷ below) tokens → BeginsNoNumber start → Stands all below (Minus ∷ start)
    → HasOperand all below (expr.Negate' p f) tokens
negate_closes all below f p tokens Loose start c a n st = absurd a.0
negate_closes all below f p tokens Tight start c a n st = absurd a
negate_closes all below f p tokens Single start c a n st = record { strength = Single; start = Minus ∷ start; spelled = grammar.negate n c; allowed = tt; below = st }

times_closes : (all : List Token) (below : List Frame) (left f : Expr) (p q : _) (tokens : List Token) (s : Strength) (start : List Token) → Expression s start f tokens → Allows s (frame.Times left ∷ below) tokens
    → (first : List Token) → Expression Tight first left (Star ∷ start) → AllowsTight below → Stands all below first → HasOperand all below (expr.Multiply' p left q f) tokens
times_closes all below left f p q tokens Loose start c a first l b st = absurd a.0
times_closes all below left f p q tokens Tight start c a first l b st = absurd a
times_closes all below left f p q tokens Single start c a first l b st = record { strength = Tight; start = first; spelled = grammar.times l c; allowed = b; below = st }

times_waits : (all : List Token) (frames : List Frame) (f : Expr) (rest : List Token) (s : Strength) (start : List Token) → Expression s start f (Star ∷ rest) → Allows s frames (Star ∷ rest) → AllowsTight frames → Stands all frames start
    → Stands all (frame.Times f ∷ frames) rest
times_waits all frames f rest Loose start c a b st = absurd a.1
times_waits all frames f rest Tight start c a b st = (start, c, b, st)
times_waits all frames f rest Single start c a b st = (start, grammar.factor c, b, st)

pub closes_negate : (all : List Token) (fr : Frame) (below : List Frame) (f g : Expr) (p : _) (tokens : List Token) → fr ≡ frame.Negate → g ≡ f → HasOperand all (fr ∷ below) f tokens → HasOperand all below (expr.Negate' p g) tokens
closes_negate all fr below f g p tokens e i h =
    let k = subst (λ (fr : Frame). HasOperand all (fr ∷ below) f tokens) e h in
    subst (λ (f : Expr). HasOperand all below (expr.Negate' p f) tokens) (sym i) (negate_closes all below f p tokens k.strength k.start k.spelled k.allowed k.below.0 k.below.1)

pub closes_times : (all : List Token) (fr : Frame) (below : List Frame) (left f l g : Expr) (p q : _) (tokens : List Token) → fr ≡ frame.Times left → l ≡ left → g ≡ f → HasOperand all (fr ∷ below) f tokens → HasOperand all below (expr.Multiply' p l q g) tokens
closes_times all fr below left f l g p q tokens e i j h =
    let k = subst (λ (fr : Frame). HasOperand all (fr ∷ below) f tokens) e h in
    let one = times_closes all below left f p q tokens k.strength k.start k.spelled k.allowed k.below.0 k.below.1 k.below.2 k.below.3 in
    let two = subst (λ (l : Expr). HasOperand all below (expr.Multiply' p l q f) tokens) (sym i) one in
    subst (λ (g : Expr). HasOperand all below (expr.Multiply' p l q g) tokens) (sym j) two

plus_closes : (all : List Token) (below : List Frame) (left f : Expr) (p q : _) (tokens : List Token) (s : Strength) (start : List Token) → Expression s start f tokens → Allows s (frame.Plus left ∷ below) tokens
    → (first : List Token) → Expression Loose first left (Plus ∷ start) → AllowsLoose below → Stands all below first → BeginsNoStar tokens → HasOperand all below (expr.Add' p left q f) tokens
plus_closes all below left f p q tokens Loose start c a first l b st n = absurd a.0
plus_closes all below left f p q tokens Tight start c a first l b st n = record { strength = Loose; start = first; spelled = grammar.plus l c; allowed = (b, n); below = st }
plus_closes all below left f p q tokens Single start c a first l b st n = record { strength = Loose; start = first; spelled = grammar.plus l (grammar.factor c); allowed = (b, n); below = st }

pub closes_plus : (all : List Token) (below : List Frame) (left f l g : Expr) (p q : _) (tokens : List Token) → NoStar (follow_of tokens) → l ≡ left → g ≡ f → HasOperand all (frame.Plus left ∷ below) f tokens → HasOperand all below (expr.Add' p l q g) tokens
closes_plus all below left f l g p q tokens n i j k =
    let one = plus_closes all below left f p q tokens k.strength k.start k.spelled k.allowed k.below.0 k.below.1 k.below.2 k.below.3 (no_star_follows tokens n) in
    let two = subst (λ (l : Expr). HasOperand all below (expr.Add' p l q f) tokens) (sym i) one in
    subst (λ (g : Expr). HasOperand all below (expr.Add' p l q g) tokens) (sym j) two

pub waits_plus : (all : List Token) (frames pushed : List Frame) (f : Expr) (tokens rest : List Token) → pushed ≡ frame.Plus f ∷ frames → AllowsLoose frames → follow_of tokens ≡ read.Adding rest → HasOperand all frames f tokens → Stands all pushed rest
waits_plus all frames pushed f tokens rest p b e h =
    let k = subst (λ (ts : List Token). HasOperand all frames f ts) (plus_follows tokens rest e) h in
    subst (λ (fs : List Frame). Stands all fs rest) (sym p) (k.start, loosely k.strength k.spelled, b, k.below)

minus_closes : (all : List Token) (below : List Frame) (left f : Expr) (p q : _) (tokens : List Token) (s : Strength) (start : List Token) → Expression s start f tokens → Allows s (frame.Minus left ∷ below) tokens
    → (first : List Token) → Expression Loose first left (Minus ∷ start) → AllowsLoose below → Stands all below first → BeginsNoStar tokens → HasOperand all below (expr.Subtract' p left q f) tokens
minus_closes all below left f p q tokens Loose start c a first l b st n = absurd a.0
minus_closes all below left f p q tokens Tight start c a first l b st n = record { strength = Loose; start = first; spelled = grammar.minus l c; allowed = (b, n); below = st }
minus_closes all below left f p q tokens Single start c a first l b st n = record { strength = Loose; start = first; spelled = grammar.minus l (grammar.factor c); allowed = (b, n); below = st }

pub closes_minus : (all : List Token) (below : List Frame) (left f l g : Expr) (p q : _) (tokens : List Token) → NoStar (follow_of tokens) → l ≡ left → g ≡ f → HasOperand all (frame.Minus left ∷ below) f tokens → HasOperand all below (expr.Subtract' p l q g) tokens
closes_minus all below left f l g p q tokens n i j k =
    let one = minus_closes all below left f p q tokens k.strength k.start k.spelled k.allowed k.below.0 k.below.1 k.below.2 k.below.3 (no_star_follows tokens n) in
    let two = subst (λ (l : Expr). HasOperand all below (expr.Subtract' p l q f) tokens) (sym i) one in
    subst (λ (g : Expr). HasOperand all below (expr.Subtract' p l q g) tokens) (sym j) two

pub waits_minus : (all : List Token) (frames pushed : List Frame) (f : Expr) (tokens rest : List Token) → pushed ≡ frame.Minus f ∷ frames → AllowsLoose frames → follow_of tokens ≡ read.Subtracting rest → HasOperand all frames f tokens → Stands all pushed rest
waits_minus all frames pushed f tokens rest p b e h =
    let k = subst (λ (ts : List Token). HasOperand all frames f ts) (minus_follows tokens rest e) h in
    subst (λ (fs : List Frame). Stands all fs rest) (sym p) (k.start, loosely k.strength k.spelled, b, k.below)

pub waits_times : (all : List Token) (frames pushed : List Frame) (f : Expr) (tokens rest : List Token) → pushed ≡ frame.Times f ∷ frames → AllowsTight frames → follow_of tokens ≡ read.Times rest → HasOperand all frames f tokens → Stands all pushed rest
waits_times all frames pushed f tokens rest p b e h =
    let k = subst (λ (ts : List Token). HasOperand all frames f ts) (times_follows tokens rest e) h in
    subst (λ (fs : List Frame). Stands all fs rest) (sym p) (times_waits all frames f rest k.strength k.start k.spelled k.allowed b k.below)

pub closes_bracket : (all : List Token) (below : List Frame) (f : Expr) (tokens rest : List Token) → follow_of tokens ≡ read.Closing rest → HasOperand all (frame.Open ∷ below) f tokens → HasOperand all below f rest
closes_bracket all below f tokens rest e h =
    let k = subst (λ (ts : List Token). HasOperand all (frame.Open ∷ below) f ts) (closing_follows tokens rest e) h in
    record { strength = Single; start = Open ∷ k.start; spelled = grammar.brackets (loosely k.strength k.spelled); allowed = tt; below = k.below }

-- ---- the step that is made

abbrev as_step : read.Step → Result read.Step (List Token)
as_step s = Ok s

goes_in : (mark : read.Mark) (below : List read.Mark) (tokens : List Token) (f : Follow) → NoStar f → as_step (read.in_sum mark below tokens f) ≡ as_step (read.Goes tokens)
goes_in mark below tokens (read.Times rest) n = absurd n
goes_in mark below tokens (read.Adding rest) n = refl
goes_in mark below tokens (read.Subtracting rest) n = refl
goes_in mark below tokens (read.Closing rest) n = refl
goes_in mark below tokens read.Other n = refl

pub goes_in_sum : (below : List Frame) (tokens : List Token) → NoStar (follow_of tokens) → close read.Sum (marks below) tokens ≡ Ok (read.Goes tokens)
unfolding close
goes_in_sum below tokens n = goes_in read.Sum (marks below) tokens (follow_of tokens) n

pub goes_in_difference : (below : List Frame) (tokens : List Token) → NoStar (follow_of tokens) → close read.Difference (marks below) tokens ≡ Ok (read.Goes tokens)
unfolding close
goes_in_difference below tokens n = goes_in read.Difference (marks below) tokens (follow_of tokens) n

pub waits_in_sum : (left f : Expr) (below pushed : List Frame) (tokens rest : List Token) → pushed ≡ frame.Times f ∷ frame.Plus left ∷ below → follow_of tokens ≡ read.Times rest
    → close read.Sum (marks below) tokens ≡ Ok (read.Wants (marks pushed) rest)
unfolding close
waits_in_sum left f below pushed tokens rest p e = rw (e, p) refl

pub waits_in_difference : (left f : Expr) (below pushed : List Frame) (tokens rest : List Token) → pushed ≡ frame.Times f ∷ frame.Minus left ∷ below → follow_of tokens ≡ read.Times rest
    → close read.Difference (marks below) tokens ≡ Ok (read.Wants (marks pushed) rest)
unfolding close
waits_in_difference left f below pushed tokens rest p e = rw (e, p) refl

pub times_in_brackets : (f : Expr) (below pushed : List Frame) (tokens rest : List Token) → pushed ≡ frame.Times f ∷ frame.Open ∷ below → follow_of tokens ≡ read.Times rest
    → close read.Bracket (marks below) tokens ≡ Ok (read.Wants (marks pushed) rest)
unfolding close
times_in_brackets f below pushed tokens rest p e = rw (e, p) refl

pub times_at_bottom : (f : Expr) (new : List Frame) (tokens rest : List Token) → new ≡ frame.Times f ∷ [] → follow_of tokens ≡ read.Times rest → read.settle [] tokens ≡ Ok (read.More (marks new) rest)
unfolding read.settle
times_at_bottom f new tokens rest n e = rw (e, n) refl

pub plus_in_brackets : (f : Expr) (below pushed : List Frame) (tokens rest : List Token) → pushed ≡ frame.Plus f ∷ frame.Open ∷ below → follow_of tokens ≡ read.Adding rest
    → close read.Bracket (marks below) tokens ≡ Ok (read.Wants (marks pushed) rest)
unfolding close
plus_in_brackets f below pushed tokens rest p e = rw (e, p) refl

pub plus_at_bottom : (f : Expr) (new : List Frame) (tokens rest : List Token) → new ≡ frame.Plus f ∷ [] → follow_of tokens ≡ read.Adding rest → read.settle [] tokens ≡ Ok (read.More (marks new) rest)
unfolding read.settle
plus_at_bottom f new tokens rest n e = rw (e, n) refl

pub minus_in_brackets : (f : Expr) (below pushed : List Frame) (tokens rest : List Token) → pushed ≡ frame.Minus f ∷ frame.Open ∷ below → follow_of tokens ≡ read.Subtracting rest
    → close read.Bracket (marks below) tokens ≡ Ok (read.Wants (marks pushed) rest)
unfolding close
minus_in_brackets f below pushed tokens rest p e = rw (e, p) refl

pub minus_at_bottom : (f : Expr) (new : List Frame) (tokens rest : List Token) → new ≡ frame.Minus f ∷ [] → follow_of tokens ≡ read.Subtracting rest → read.settle [] tokens ≡ Ok (read.More (marks new) rest)
unfolding read.settle
minus_at_bottom f new tokens rest n e = rw (e, n) refl

pub closing_in_brackets : (below : List Frame) (tokens rest : List Token) → follow_of tokens ≡ read.Closing rest → close read.Bracket (marks below) tokens ≡ Ok (read.Goes rest)
unfolding close
closing_in_brackets below tokens rest e = rw e refl

pub open_in_brackets : (below : List Frame) (tokens : List Token) → follow_of tokens ≡ read.Other → close read.Bracket (marks below) tokens ≡ Err tokens
unfolding close
open_in_brackets below tokens e = rw e refl

pub no_star_at : (n : Next) (tokens : List Token) → read.follow_by n ≡ follow_of tokens → ((rest : _) → n ≡ next.Times rest → ⊥) → NoStar (follow_of tokens)
no_star_at n tokens e k = subst NoStar e (go n k)
  where
    go : (n : Next) → ((rest : _) → n ≡ next.Times rest → ⊥) → NoStar (read.follow_by n)
    go (next.Times rest) k = k rest refl
    go (next.Plus rest) k = tt
    go (next.Minus rest) k = tt
    go (next.Close rest) k = tt
    go next.Other k = tt

abbrev pub NoOperator : Follow → Type 0
NoOperator (read.Times rest) = ⊥
NoOperator (read.Adding rest) = ⊥
NoOperator (read.Subtracting rest) = ⊥
NoOperator (read.Closing rest) = Unit {0}
NoOperator read.Other = Unit {0}

pub no_operator_at : (n : Next) (tokens : List Token) → read.follow_by n ≡ follow_of tokens → ((rest : _) → n ≡ next.Times rest → ⊥) → ((rest : _) → n ≡ next.Plus rest → ⊥) → ((rest : _) → n ≡ next.Minus rest → ⊥) → NoOperator (follow_of tokens)
no_operator_at n tokens e k l m = subst NoOperator e (go n k l m)
  where
    go : (n : Next) → ((rest : _) → n ≡ next.Times rest → ⊥) → ((rest : _) → n ≡ next.Plus rest → ⊥) → ((rest : _) → n ≡ next.Minus rest → ⊥) → NoOperator (read.follow_by n)
    go (next.Times rest) k l m = k rest refl
    go (next.Plus rest) k l m = l rest refl
    go (next.Minus rest) k l m = m rest refl
    go (next.Close rest) k l m = tt
    go next.Other k l m = tt

abbrev as_stage : read.Stage → Result read.Stage (List Token)
as_stage s = Ok s

pub whole_at_bottom : (tokens : List Token) → NoOperator (follow_of tokens) → read.settle [] tokens ≡ Ok (read.Whole tokens)
unfolding read.settle
whole_at_bottom tokens n = go (follow_of tokens) n
  where
    go : (f : Follow) → NoOperator f → as_stage (read.at_bottom tokens f) ≡ as_stage (read.Whole tokens)
    go (read.Times rest) n = absurd n
    go (read.Adding rest) n = absurd n
    go (read.Subtracting rest) n = absurd n
    go (read.Closing rest) n = refl
    go read.Other n = refl

pub whole_expression : (all : List Token) (f : Expr) (tokens : List Token) → HasOperand all [] f tokens → Expression Loose all f tokens
whole_expression all f tokens h = subst (λ (ts : List Token). Expression Loose ts f tokens) h.below (loosely h.strength h.spelled)

-- ---- what an operand begins with

abbrev NegatesNoNumber : List Token → read.Opening → Type 0
NegatesNoNumber tokens (read.Negating rest) = (tokens ≡ Minus ∷ rest) × BeginsNoNumber rest
NegatesNoNumber tokens (read.Opened rest) = tokens ≡ Open ∷ rest
NegatesNoNumber tokens read.Valued = Unit {0}

opens : (tokens : List Token) → NegatesNoNumber tokens (opening_of tokens)
unfolding opening_of
opens [] = tt
opens (Minus ∷ []) = (refl, tt)
opens (Minus ∷ Number digits ∷ rest) = tt
opens (Minus ∷ other ∷ rest) = (refl, tt)
opens (Open ∷ rest) = refl
opens (other ∷ rest) = tt

pub negate_waits : (all : List Token) (frames pushed : List Frame) (tokens rest : List Token) → pushed ≡ frame.Negate ∷ frames → opening_of tokens ≡ read.Negating rest → Stands all frames tokens → Stands all pushed rest
negate_waits all frames pushed tokens rest p e st =
    let o : NegatesNoNumber tokens (read.Negating rest) = subst (NegatesNoNumber tokens) e (opens tokens) in
    subst (λ (fs : List Frame). Stands all fs rest) (sym p) (o.1, subst (λ (ts : List Token). Stands all frames ts) o.0 st)

pub bracket_waits : (all : List Token) (frames pushed : List Frame) (tokens rest : List Token) → pushed ≡ frame.Open ∷ frames → opening_of tokens ≡ read.Opened rest → Stands all frames tokens → Stands all pushed rest
bracket_waits all frames pushed tokens rest p e st =
    let o : NegatesNoNumber tokens (read.Opened rest) = subst (NegatesNoNumber tokens) e (opens tokens) in
    subst (λ (fs : List Frame). Stands all fs rest) (sym p) (subst (λ (ts : List Token). Stands all frames ts) o st)

pub negate_step : (frames pushed : List Frame) (tokens rest : List Token) → pushed ≡ frame.Negate ∷ frames → opening_of tokens ≡ read.Negating rest → read.operand_step (marks frames) tokens ≡ Ok (read.More (marks pushed) rest)
unfolding read.operand_step
negate_step frames pushed tokens rest p e = rw (e, p) refl

pub bracket_step : (frames pushed : List Frame) (tokens rest : List Token) → pushed ≡ frame.Open ∷ frames → opening_of tokens ≡ read.Opened rest → read.operand_step (marks frames) tokens ≡ Ok (read.More (marks pushed) rest)
unfolding read.operand_step
bracket_step frames pushed tokens rest p e = rw (e, p) refl

pub value_opens : (waiting : List read.Mark) (tokens : List Token) → opening_of tokens ≡ read.Valued → read.operand_step waiting tokens ≡ read.value_step waiting tokens
unfolding read.operand_step
value_opens waiting tokens e = rw e refl
