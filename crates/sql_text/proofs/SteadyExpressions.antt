-- Expressions, where more tokens come behind.
use Rattle.std.proofs.Common.{◌≡◌, ℕ, zero, suc, ◌<◌, ◌≤◌, List, [], ◌∷◌, ◌++◌, length, Result, Ok, Err, IfOk, refl, ◌∙◌, subst, arith}
use Rattle.inno_types.specs.declared.stmt.Expr.{Expr}
use Rattle.inno_types.specs.declared.stmt.Expr.TheVariants as expr
use Rattle.sql_grammar.specs.declared.token.Token.{Token}
use Rattle.sql_grammar.specs.declared.token.Token.TheVariants.{Bare, Quoted, Number, Open, Close, Star, Plus, Minus}
use Rattle.sql_grammar.specs.Grammar.{Lit}
use Rattle.sql_conditions.specs.Parts.{◌>>=◌, lit_at}
use Rattle.sql_conditions.specs.Expressions.{value_at, Mark, Negation, Bracket, Product, Sum, Difference, Stage, Whole, More, opening_of, follow_of, settle}
use Rattle.sql_conditions.specs.Expressions.{close, operand_step, value_step, resume, steps, after_expression}
use Rattle.sql_conditions.proofs.Sound.{bind, lit_sound}
use Rattle.sql_conditions.proofs.Complete.{lit_shorter}
use Rattle.sql_text.proofs.Steady.{Said, Stays, Starts, took, took_all, faulty, cut_off, wanted, unsaid, same_stays, reads, then, made_of, said_nothing}
use Rattle.sql_text.proofs.SteadyLists.{X, Any, Apart, at_end, at_close, at_from, at_values, at_name, pair, alone, said_x, said_close, said_before, lit_stays}
use Rattle.sql_text.proofs.SteadyConditions.{of_sound, regroup}

value_stays : {Fits : List Token → Type 0} (xs : List Token) → Stays pair Fits (value_at xs) (λ zs. value_at (xs ++ zs))
unfolding value_at lit_at
value_stays [] = cut_off (X ∷ []) (expr.Column (120 ∷ [])) refl said_x (λ zs z. refl)
value_stays (Bare meaning name ∷ rest) = reads (expr.Column name) rest refl (λ zs. refl)
value_stays (Quoted name ∷ rest) = reads (expr.Column name) rest refl (λ zs. refl)
value_stays (t ∷ rest) = made_of (λ value. Ok (expr.Literal value.0, value.1)) (λ v. expr.Literal v) (λ v zs. refl) (lit_stays (t ∷ rest))

value_shrinks : (xs : List Token) → IfOk (value_at xs) (λ r. length r.1 < length xs)
unfolding value_at lit_at
value_shrinks [] = tt
value_shrinks (Bare meaning name ∷ rest) = omega arith
value_shrinks (Quoted name ∷ rest) = omega arith
value_shrinks (t ∷ rest) =
    bind {B = Expr × List Token} (lit_at (t ∷ rest)) (λ value. Ok (expr.Literal value.0, value.1)) (λ r. Lit (t ∷ rest) r.0 r.1)
    (λ r. length r.1 < length (t ∷ rest)) (lit_sound (t ∷ rest)) (λ r l. lit_shorter l)

-- ---- the stack

abbrev all : List Mark → List Token → Result (List Token) (List Token)
all waiting xs = steps (length xs) waiting xs

-- the steps from behind an operand
abbrev behind : List Mark → List Token → Result (List Token) (List Token)
behind waiting xs = settle waiting xs >>= resume all

abbrev Within : ℕ → Stage → Type 0
Within n (Whole rest) = Unit {0}
Within n (More waiting rest) = length rest < n

settle_within : (waiting : List Mark) (xs : List Token) (n : ℕ) → length xs ≤ n → IfOk (settle waiting xs) (Within n)
unfolding settle close follow_of
settle_within [] [] n le = tt
settle_within [] (Star ∷ rest) n le = omega (arith, le)
settle_within [] (Plus ∷ rest) n le = omega (arith, le)
settle_within [] (Minus ∷ rest) n le = omega (arith, le)
settle_within [] (Close ∷ rest) n le = tt
settle_within [] (t ∷ rest) n le = tt
settle_within (Negation ∷ below) xs n le = settle_within below xs n le
settle_within (Product ∷ below) xs n le = settle_within below xs n le
settle_within (Bracket ∷ below) [] n le = tt
settle_within (Bracket ∷ below) (Star ∷ rest) n le = omega (arith, le)
settle_within (Bracket ∷ below) (Plus ∷ rest) n le = omega (arith, le)
settle_within (Bracket ∷ below) (Minus ∷ rest) n le = omega (arith, le)
settle_within (Bracket ∷ below) (Close ∷ rest) n le = settle_within below rest n (omega (arith, le))
settle_within (Bracket ∷ below) (t ∷ rest) n le = tt
settle_within (Sum ∷ below) [] n le = settle_within below [] n le
settle_within (Sum ∷ below) (Star ∷ rest) n le = omega (arith, le)
settle_within (Sum ∷ below) (t ∷ rest) n le = settle_within below (t ∷ rest) n le
settle_within (Difference ∷ below) [] n le = settle_within below [] n le
settle_within (Difference ∷ below) (Star ∷ rest) n le = omega (arith, le)
settle_within (Difference ∷ below) (t ∷ rest) n le = settle_within below (t ∷ rest) n le

value_within : (waiting : List Mark) (xs : List Token) → IfOk (value_step waiting xs) (Within (length xs))
unfolding value_step
value_within waiting xs =
    bind (value_at xs) (λ value. settle waiting value.1) (λ r. length r.1 < length xs) (Within (length xs)) (value_shrinks xs)
    (λ value lt. settle_within waiting value.1 (length xs) (omega (arith, lt)))

operand_within : (waiting : List Mark) (xs : List Token) → IfOk (operand_step waiting xs) (Within (length xs))
unfolding operand_step opening_of
operand_within waiting [] = value_within waiting []
operand_within waiting (Minus ∷ []) = omega arith
operand_within waiting (Minus ∷ Number digits ∷ rest) = value_within waiting (Minus ∷ Number digits ∷ rest)
operand_within waiting (Minus ∷ t ∷ rest) = omega arith
operand_within waiting (Open ∷ rest) = omega arith
operand_within waiting (t ∷ rest) = value_within waiting (t ∷ rest)

nothing_operand : (waiting : List Mark) → operand_step waiting [] ≡ Err []
unfolding operand_step opening_of value_step value_at lit_at
nothing_operand waiting = refl

resume_same : (more others : List Mark → List Token → Result (List Token) (List Token)) (n : ℕ) (r : Result Stage (List Token)) → IfOk r (Within (suc n))
    → ((waiting : List Mark) (ys : List Token) → length ys ≤ n → more waiting ys ≡ others waiting ys)
    → (r >>= resume more) ≡ (r >>= resume others)
resume_same more others n (Err e) w same = refl
resume_same more others n (Ok (Whole rest)) w same = refl
resume_same more others n (Ok (More waiting rest)) w same = same waiting rest (omega (arith, w))

wider_stage : (n m : ℕ) (r : Result Stage (List Token)) → n ≤ m → IfOk r (Within n) → IfOk r (Within m)
wider_stage n m (Err e) le w = tt
wider_stage n m (Ok (Whole rest)) le w = tt
wider_stage n m (Ok (More waiting rest)) le w = omega (arith, le, w)

same_steps : (n m : ℕ) (waiting : List Mark) (xs : List Token) → length xs ≤ n → length xs ≤ m → steps n waiting xs ≡ steps m waiting xs
unfolding steps
same_steps zero zero waiting xs le lf = refl
same_steps zero (suc m) waiting [] le lf = rw (nothing_operand waiting) refl
same_steps zero (suc m) waiting (t ∷ xs) le lf = absurd (omega (arith, le))
same_steps (suc n) zero waiting [] le lf = rw (nothing_operand waiting) refl
same_steps (suc n) zero waiting (t ∷ xs) le lf = absurd (omega (arith, lf))
same_steps (suc n) (suc m) waiting [] le lf = rw (nothing_operand waiting) refl
same_steps (suc n) (suc m) waiting (t ∷ xs) le lf =
    resume_same (steps n) (steps m) (length xs) (operand_step waiting (t ∷ xs))
    (wider_stage (length (t ∷ xs)) (suc (length xs)) (operand_step waiting (t ∷ xs)) (omega arith) (operand_within waiting (t ∷ xs)))
    (λ more ys less. same_steps n m more ys (omega (arith, less, le)) (omega (arith, less, lf)))

one_step : (waiting : List Mark) (xs : List Token) → all waiting xs ≡ (operand_step waiting xs >>= resume all)
unfolding steps
one_step waiting xs =
    let more : all waiting xs ≡ steps (suc (length xs)) waiting xs = same_steps (length xs) (suc (length xs)) waiting xs (omega arith) (omega arith) in
    more ∙ resume_same (steps (length xs)) all (length xs) (operand_step waiting xs)
    (wider_stage (length xs) (suc (length xs)) (operand_step waiting xs) (omega arith) (operand_within waiting xs))
    (λ after ys le. same_steps (length xs) (length ys) after ys le (omega arith))

-- ---- closing what is open

abbrev closers : List Mark → List Token
closers [] = []
closers (Negation ∷ below) = closers below
closers (Bracket ∷ below) = Close ∷ closers below
closers (Product ∷ below) = closers below
closers (Sum ∷ below) = closers below
closers (Difference ∷ below) = closers below

said_closers : (waiting : List Mark) → Said (closers waiting)
said_closers [] = said_nothing
said_closers (Negation ∷ below) = said_closers below
said_closers (Bracket ∷ below) = said_before Close (closers below) said_close (said_closers below)
said_closers (Product ∷ below) = said_closers below
said_closers (Sum ∷ below) = said_closers below
said_closers (Difference ∷ below) = said_closers below

apart_closers : (waiting : List Mark) {zs : List Token} → Apart zs → Apart (closers waiting ++ zs)
apart_closers [] z = z
apart_closers (Negation ∷ below) z = apart_closers below z
apart_closers (Bracket ∷ below) z = at_close
apart_closers (Product ∷ below) z = apart_closers below z
apart_closers (Sum ∷ below) z = apart_closers below z
apart_closers (Difference ∷ below) z = apart_closers below z

apart_whole : {zs : List Token} → Apart zs → settle [] zs ≡ Ok (Whole zs)
unfolding settle follow_of
apart_whole at_end = refl
apart_whole at_close = refl
apart_whole at_from = refl
apart_whole at_values = refl
apart_whole at_name = refl

apart_sum : (below : List Mark) {zs : List Token} → Apart zs → settle (Sum ∷ below) zs ≡ settle below zs
unfolding settle close follow_of
apart_sum below at_end = refl
apart_sum below at_close = refl
apart_sum below at_from = refl
apart_sum below at_values = refl
apart_sum below at_name = refl

apart_difference : (below : List Mark) {zs : List Token} → Apart zs → settle (Difference ∷ below) zs ≡ settle below zs
unfolding settle close follow_of
apart_difference below at_end = refl
apart_difference below at_close = refl
apart_difference below at_from = refl
apart_difference below at_values = refl
apart_difference below at_name = refl

closed : (waiting : List Mark) (zs : List Token) → Apart zs → settle waiting (closers waiting ++ zs) ≡ Ok (Whole zs)
unfolding settle close follow_of
closed [] zs z = apart_whole z
closed (Negation ∷ below) zs z = closed below zs z
closed (Bracket ∷ below) zs z = closed below zs z
closed (Product ∷ below) zs z = closed below zs z
closed (Sum ∷ below) zs z = apart_sum below (apart_closers below z) ∙ closed below zs z
closed (Difference ∷ below) zs z = apart_difference below (apart_closers below z) ∙ closed below zs z

all_closed : (waiting : List Mark) (zs : List Token) → Apart zs → behind waiting (closers waiting ++ zs) ≡ Ok zs
all_closed waiting zs z = rw (closed waiting zs z) refl

-- whether a bracket is open
data Opens (waiting : List Mark) : Type 0 where
  none : closers waiting ≡ [] → settle waiting [] ≡ Ok (Whole []) → Opens waiting
  some : settle waiting [] ≡ Err [] → Opens waiting

opens_again : (waiting more : List Mark) → closers more ≡ closers waiting → settle more [] ≡ settle waiting [] → Opens waiting → Opens more
opens_again waiting more c s (none d e) = none (c ∙ d) (s ∙ e)
opens_again waiting more c s (some e) = some (s ∙ e)

opens : (waiting : List Mark) → Opens waiting
unfolding settle close follow_of
opens [] = none refl refl
opens (Negation ∷ below) = opens_again below (Negation ∷ below) refl refl (opens below)
opens (Bracket ∷ below) = some refl
opens (Product ∷ below) = opens_again below (Product ∷ below) refl refl (opens below)
opens (Sum ∷ below) = opens_again below (Sum ∷ below) refl refl (opens below)
opens (Difference ∷ below) = opens_again below (Difference ∷ below) refl refl (opens below)

abbrev BehindStays : List Mark → List Token → Type 0
BehindStays waiting xs = Stays alone Apart (behind waiting xs) (λ zs. behind waiting (xs ++ zs))

abbrev AllStays : List Mark → List Token → Type 0
AllStays waiting xs = Stays alone Apart (all waiting xs) (λ zs. all waiting (xs ++ zs))

behind_nothing : (waiting : List Mark) → BehindStays waiting []
behind_nothing waiting = by_brackets (opens waiting)
  where
    by_brackets : Opens waiting → BehindStays waiting []
    by_brackets (none c e) = took_all tt (rw e refl) (λ zs z. subst (λ (ts : List Token). behind waiting (ts ++ zs) ≡ Ok zs) c (all_closed waiting zs z))
    by_brackets (some e) = cut_off (closers waiting) tt (rw e refl) (said_closers waiting) (λ zs z. all_closed waiting zs z)

behind_starts : (waiting : List Mark) → Starts alone Any Apart (behind waiting)
behind_starts waiting = by_brackets (opens waiting)
  where
    by_brackets : Opens waiting → Starts alone Any Apart (behind waiting)
    by_brackets (none c e) =
        unsaid tt (rw e refl) (λ zs z. tt) (λ zs z. subst (λ (ts : List Token). behind waiting (ts ++ zs) ≡ Ok zs) c (all_closed waiting zs z))
    by_brackets (some e) = wanted (closers waiting) tt (rw e refl) (said_closers waiting) (λ zs z. tt) (λ zs z. all_closed waiting zs z)

behind_stays : (n : ℕ) → ((waiting : List Mark) (ys : List Token) → length ys < n → AllStays waiting ys) → (waiting : List Mark) (xs : List Token)
    → length xs ≤ n → BehindStays waiting xs
unfolding settle close follow_of
behind_stays n again waiting [] le = behind_nothing waiting
behind_stays n again [] (Star ∷ rest) le = again (Product ∷ []) rest (omega (arith, le))
behind_stays n again [] (Plus ∷ rest) le = again (Sum ∷ []) rest (omega (arith, le))
behind_stays n again [] (Minus ∷ rest) le = again (Difference ∷ []) rest (omega (arith, le))
behind_stays n again [] (t ∷ rest) le = took tt t rest refl (λ zs. refl)
behind_stays n again (Negation ∷ below) (t ∷ rest) le = behind_stays n again below (t ∷ rest) le
behind_stays n again (Product ∷ below) (t ∷ rest) le = behind_stays n again below (t ∷ rest) le
behind_stays n again (Bracket ∷ below) (Star ∷ rest) le = again (Product ∷ Bracket ∷ below) rest (omega (arith, le))
behind_stays n again (Bracket ∷ below) (Plus ∷ rest) le = again (Sum ∷ Bracket ∷ below) rest (omega (arith, le))
behind_stays n again (Bracket ∷ below) (Minus ∷ rest) le = again (Difference ∷ Bracket ∷ below) rest (omega (arith, le))
behind_stays n again (Bracket ∷ below) (Close ∷ rest) le = behind_stays n again below rest (omega (arith, le))
behind_stays n again (Bracket ∷ below) (t ∷ rest) le = faulty t rest refl (λ zs. refl)
behind_stays n again (Sum ∷ below) (Star ∷ rest) le = again (Product ∷ Sum ∷ below) rest (omega (arith, le))
behind_stays n again (Sum ∷ below) (t ∷ rest) le = behind_stays n again below (t ∷ rest) le
behind_stays n again (Difference ∷ below) (Star ∷ rest) le = again (Product ∷ Difference ∷ below) rest (omega (arith, le))
behind_stays n again (Difference ∷ below) (t ∷ rest) le = behind_stays n again below (t ∷ rest) le

-- ---- an operand

value_goes_on : (waiting : List Mark) (zs : List Token) → Apart zs → all waiting ((X ∷ closers waiting) ++ zs) ≡ Ok zs
unfolding operand_step opening_of value_step value_at
value_goes_on waiting zs z = one_step waiting ((X ∷ closers waiting) ++ zs) ∙ all_closed waiting zs z

said_value : (waiting : List Mark) → Said (X ∷ closers waiting)
said_value waiting = said_before X (closers waiting) said_x (said_closers waiting)

nothing_stays : (waiting : List Mark) → AllStays waiting []
nothing_stays waiting =
    cut_off (X ∷ closers waiting) tt (one_step waiting [] ∙ rw (nothing_operand waiting) refl) (said_value waiting) (λ zs z. value_goes_on waiting zs z)

by_value : (n : ℕ) (waiting : List Mark) (xs : List Token) → ((more : List Mark) (ys : List Token) → length ys < n → AllStays more ys) → length xs ≤ suc n
    → Stays alone Apart (value_at xs >>= λ value. behind waiting value.1) (λ zs. value_at (xs ++ zs) >>= λ value. behind waiting value.1)
by_value n waiting xs again le =
    then (λ value. behind waiting value.1) (value_stays xs) (λ value t rest e. behind_stays n again waiting (t ∷ rest)
    (omega (arith, le, of_sound (value_at xs) (λ r. length r.1 < length xs) (value, t ∷ rest) (value_shrinks xs) e)))
    (λ value. behind_starts waiting)

value_steps : (waiting : List Mark) (xs : List Token) → (value_step waiting xs >>= resume all) ≡ (value_at xs >>= λ value. behind waiting value.1)
unfolding value_step
value_steps waiting xs = regroup (value_at xs) (λ value. settle waiting value.1) (resume all)

-- a minus at the end: what follows it may be its number, so a name is put there
minus_stays : (waiting : List Mark)
    → Stays alone Apart (operand_step waiting (Minus ∷ []) >>= resume all) (λ zs. operand_step waiting (Minus ∷ zs) >>= resume all)
unfolding operand_step opening_of
minus_stays waiting =
    cut_off (X ∷ closers waiting) tt (one_step (Negation ∷ waiting) [] ∙ rw (nothing_operand (Negation ∷ waiting)) refl) (said_value waiting)
    (λ zs z. value_goes_on (Negation ∷ waiting) zs z)

operand_stays : (n : ℕ) (waiting : List Mark) (t : Token) (rest : List Token) → ((more : List Mark) (ys : List Token) → length ys ≤ n → AllStays more ys)
    → length rest ≤ n
    → Stays alone Apart (operand_step waiting (t ∷ rest) >>= resume all) (λ zs. operand_step waiting (t ∷ (rest ++ zs)) >>= resume all)
unfolding operand_step opening_of
operand_stays n waiting Minus [] again le = minus_stays waiting
operand_stays n waiting Minus (Number digits ∷ rest) again le =
    let xs = Minus ∷ Number digits ∷ rest in
    same_stays (value_steps waiting xs) (λ zs. value_steps waiting (xs ++ zs))
    (by_value n waiting xs (λ more ys less. again more ys (omega (arith, less))) (omega (arith, le)))
operand_stays n waiting Minus (t ∷ rest) again le = again (Negation ∷ waiting) (t ∷ rest) le
operand_stays n waiting Open rest again le = again (Bracket ∷ waiting) rest le
operand_stays n waiting t rest again le =
    same_stays (value_steps waiting (t ∷ rest)) (λ zs. value_steps waiting (t ∷ (rest ++ zs)))
    (by_value n waiting (t ∷ rest) (λ more ys less. again more ys (omega (arith, less))) (omega (arith, le)))

all_stays : (n : ℕ) (waiting : List Mark) (xs : List Token) → length xs ≤ n → AllStays waiting xs
all_stays n waiting [] le = nothing_stays waiting
all_stays zero waiting (t ∷ rest) le = absurd (omega (arith, le))
all_stays (suc n) waiting (t ∷ rest) le =
    same_stays (one_step waiting (t ∷ rest)) (λ zs. one_step waiting (t ∷ (rest ++ zs)))
    (operand_stays n waiting t rest (λ more ys less. all_stays n more ys less) (omega (arith, le)))

pub expression_stays : (xs : List Token) → Stays alone Apart (after_expression xs) (λ zs. after_expression (xs ++ zs))
expression_stays xs = all_stays (length xs) [] xs (omega arith)
