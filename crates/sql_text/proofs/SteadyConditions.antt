-- Conditions, where more tokens come behind.
use Rattle.std.proofs.Common.{◌≡◌, ℕ, zero, suc, ◌<◌, ◌≤◌, List, [], ◌∷◌, ◌++◌, length, Bool, true, false, Result, Ok, Err, IfOk, refl, ◌∙◌, subst, arith}
use Rattle.inno_types.specs.declared.stmt.Comparison.TheVariants.{Equal}
use Rattle.inno_types.specs.declared.stmt.Literal.{Literal}
use Rattle.inno_types.specs.declared.stmt.Operand.{Operand}
use Rattle.inno_types.specs.declared.stmt.Operand.TheVariants as operand
use Rattle.inno_types.specs.declared.stmt.Filter.{Filter}
use Rattle.inno_types.specs.declared.stmt.Filter.TheVariants as filter
use Rattle.sql_grammar.specs.declared.token.Word.TheVariants as word
use Rattle.sql_grammar.specs.declared.token.Token.{Token}
use Rattle.sql_grammar.specs.declared.token.Token.TheVariants.{Key, Bare, Quoted, Compare, Open, Close}
use Rattle.sql_grammar.specs.Grammar.{plain_number, Lit, Atom}
use Rattle.sql_grammar.specs.Grammar as grammar
use Rattle.sql_grammar.specs.Tokens.{after_blank, token_at, sign_at, word_token}
use Rattle.sql_grammar.specs.Tokens as spelled
use Rattle.sql_conditions.specs.Parts.{◌>>=◌, lit_at, after_close, tuple_at}
use Rattle.sql_conditions.specs.Atoms as read
use Rattle.sql_conditions.specs.Conditions.{Mark, Negation, Bracket, Conjunction, Disjunction, Stage, Whole, More, follow_of, settle, close, operand_step}
use Rattle.sql_conditions.specs.Conditions.{atom_step, resume, steps, after_condition}
use Rattle.sql_conditions.proofs.Sound.{bind, weaker, lit_sound}
use Rattle.sql_conditions.proofs.Complete.{lit_shorter, tuple_complete}
use Rattle.sql_conditions.proofs.SoundAtoms.{atom_sound}
use Rattle.sql_conditions.proofs.CompleteAtoms.{atom_shorter}
use Rattle.sql_text.proofs.Steady.{Said, Stays, Starts, took, took_all, faulty, cut_off, wanted, unsaid, same_stays, reads, then, made_of, said_both}
use Rattle.sql_text.proofs.Steady.{said_nothing}
use Rattle.sql_text.proofs.SteadyLists.{Zero, Any, Apart, at_end, at_close, at_from, at_values, at_name, pair, alone, said_zero, said_open, said_close}
use Rattle.sql_text.proofs.SteadyLists.{said_equal, said_before, lit_stays, commas_stay}

-- behind a part that looks no further
pub firmly : {B Y : Type 0} {form : B → List Token → Y} {Fits : List Token → Type 0} (r : List Token → Result Y (List Token)) → r [] ≡ Err []
    → Stays form Fits (r []) r → Starts form Any Fits r
firmly r e (took a t rest h k) = absurd (cc)
firmly r e (took_all a h k) = absurd (cc)
firmly r e (faulty t rest h k) = absurd (cc)
firmly r e (cut_off g a h s k) = wanted g a e s (λ zs z. tt) k

pub of_sound : {A : Type 0} (r : Result A (List Token)) (P : A → Type 0) (a : A) → IfOk r P → r ≡ Ok a → P a
of_sound {A} r P a i e = subst (λ (x : Result A (List Token)). IfOk x P) e i

-- ---- words

pub said_and : Said (Key word.And ∷ [])
unfolding after_blank token_at word_token
said_and = (65 ∷ 78 ∷ 68 ∷ 32 ∷ [], λ rest more a. spelled.token refl refl (spelled.blank refl a))

pub said_null : Said (Key word.Null ∷ [])
unfolding after_blank token_at word_token
said_null = (78 ∷ 85 ∷ 76 ∷ 76 ∷ 32 ∷ [], λ rest more a. spelled.token refl refl (spelled.blank refl a))

said_between : Said (Key word.Between ∷ [])
unfolding after_blank token_at word_token
said_between = (66 ∷ 69 ∷ 84 ∷ 87 ∷ 69 ∷ 69 ∷ 78 ∷ 32 ∷ [], λ rest more a. spelled.token refl refl (spelled.blank refl a))

-- ---- tuples

lit_shrinks : (xs rest : List Token) (a : Literal) → lit_at xs ≡ Ok (a, rest) → length rest < length xs
lit_shrinks xs rest a e = lit_shorter {xs = xs} {ys = rest} {value = a} (of_sound (lit_at xs) (λ r. Lit xs r.0 r.1) (a, rest) (lit_sound xs) e)

lit_none : lit_at [] ≡ Err []
unfolding lit_at
lit_none = refl

pub close_stays : {Fits : List Token → Type 0} (xs : List Token) → Stays alone Fits (after_close xs) (λ zs. after_close (xs ++ zs))
close_stays [] = cut_off (Close ∷ []) tt refl said_close (λ zs z. refl)
close_stays (Close ∷ rest) = reads tt rest refl (λ zs. refl)
close_stays (t ∷ rest) = faulty t rest refl (λ zs. refl)

pub tuple_stays : {Fits : List Token → Type 0} (xs : List Token) → Stays pair Fits (tuple_at xs) (λ zs. tuple_at (xs ++ zs))
unfolding tuple_at
tuple_stays [] =
    cut_off (Open ∷ Zero ∷ Close ∷ []) (plain_number (48 ∷ []) ∷ []) refl
    (said_before Open (Zero ∷ Close ∷ []) said_open (said_before Zero (Close ∷ []) said_zero said_close))
    (λ zs z. tuple_complete (grammar.tuple (grammar.last grammar.number)))
tuple_stays (Open ∷ xs) =
    then {form = pair} (λ literals. after_close literals.1 >>= λ rest. Ok (literals.0, rest)) (commas_stay lit_at lit_none lit_shrinks lit_stays xs)
    (λ literals t rest e. made_of (λ r. Ok (literals, r)) (λ u. literals) (λ u zs. refl) (close_stays (t ∷ rest)))
    (λ literals. wanted (Close ∷ []) literals refl said_close (λ zs z. at_close) (λ zs z. refl))
tuple_stays (t ∷ xs) = faulty t xs refl (λ zs. refl)

-- ---- comparisons and tests

oper_stays : {Fits : List Token → Type 0} (xs : List Token) → Stays pair Fits (read.oper_at xs) (λ zs. read.oper_at (xs ++ zs))
unfolding read.oper_at lit_at
oper_stays [] = cut_off (Zero ∷ []) (operand.Literal (plain_number (48 ∷ []))) refl said_zero (λ zs z. refl)
oper_stays (Bare meaning name ∷ rest) = reads (operand.Column name) rest refl (λ zs. refl)
oper_stays (Quoted name ∷ rest) = reads (operand.Column name) rest refl (λ zs. refl)
oper_stays (t ∷ rest) = made_of (λ value. Ok (operand.Literal value.0, value.1)) (λ v. operand.Literal v) (λ v zs. refl) (lit_stays (t ∷ rest))

and_stays : {Fits : List Token → Type 0} (xs : List Token) → Stays alone Fits (read.after_and xs) (λ zs. read.after_and (xs ++ zs))
and_stays [] = cut_off (Key word.And ∷ []) tt refl said_and (λ zs z. refl)
and_stays (Key word.And ∷ rest) = reads tt rest refl (λ zs. refl)
and_stays (t ∷ rest) = faulty t rest refl (λ zs. refl)

null_stays : {Fits : List Token → Type 0} (xs : List Token) → Stays alone Fits (read.after_null xs) (λ zs. read.after_null (xs ++ zs))
null_stays [] = cut_off (Key word.Null ∷ []) tt refl said_null (λ zs z. refl)
null_stays (Key word.Null ∷ rest) = reads tt rest refl (λ zs. refl)
null_stays (t ∷ rest) = faulty t rest refl (λ zs. refl)

high_stays : {Fits : List Token → Type 0} (column : List ℕ) (negated : Bool) (low : Literal) (xs : List Token)
    → Stays pair Fits (lit_at xs >>= λ high. Ok (filter.Between column negated low high.0, high.1))
    (λ zs. lit_at (xs ++ zs) >>= λ high. Ok (filter.Between column negated low high.0, high.1))
high_stays column negated low xs =
    made_of (λ high. Ok (filter.Between column negated low high.0, high.1)) (λ high. filter.Between column negated low high) (λ v zs. refl) (lit_stays xs)

upper_stays : {Fits : List Token → Type 0} (column : List ℕ) (negated : Bool) (low : Literal) (xs : List Token)
    → Stays pair Fits (read.after_and xs >>= λ rest. lit_at rest >>= λ high. Ok (filter.Between column negated low high.0, high.1))
    (λ zs. read.after_and (xs ++ zs) >>= λ rest. lit_at rest >>= λ high. Ok (filter.Between column negated low high.0, high.1))
unfolding lit_at
upper_stays column negated low xs =
    then (λ rest. lit_at rest >>= λ high. Ok (filter.Between column negated low high.0, high.1)) (and_stays xs)
    (λ u t rest e. high_stays column negated low (t ∷ rest))
    (λ u. firmly (λ zs. lit_at zs >>= λ high. Ok (filter.Between column negated low high.0, high.1)) refl (high_stays column negated low []))

between_stays : {Fits : List Token → Type 0} (column : List ℕ) (negated : Bool) (xs : List Token)
    → Stays pair Fits (read.between_at column negated xs) (λ zs. read.between_at column negated (xs ++ zs))
unfolding read.between_at
between_stays column negated xs =
    then (λ low. read.after_and low.1 >>= λ rest. lit_at rest >>= λ high. Ok (filter.Between column negated low.0 high.0, high.1)) (lit_stays xs)
    (λ low t rest e. upper_stays column negated low (t ∷ rest))
    (λ low. firmly (λ zs. read.after_and zs >>= λ rest. lit_at rest >>= λ high. Ok (filter.Between column negated low high.0, high.1)) refl
    (upper_stays column negated low []))

abbrev a_range : List Token
a_range = Key word.Between ∷ Zero ∷ Key word.And ∷ Zero ∷ []

said_range : Said a_range
said_range =
    said_before (Key word.Between) (Zero ∷ Key word.And ∷ Zero ∷ []) said_between
    (said_before Zero (Key word.And ∷ Zero ∷ []) said_zero (said_before (Key word.And) (Zero ∷ []) said_and said_zero))

range_stays : {Fits : List Token → Type 0} (column : List ℕ) (negated : Bool) (xs : List Token)
    → Stays pair Fits (read.range_test_at column negated xs) (λ zs. read.range_test_at column negated (xs ++ zs))
unfolding read.range_test_at read.between_at lit_at
range_stays column negated [] = cut_off a_range (filter.Between column negated (plain_number (48 ∷ [])) (plain_number (48 ∷ []))) refl said_range (λ zs z. refl)
range_stays column negated (Key word.Between ∷ rest) = between_stays column negated rest
range_stays column negated (Key word.In ∷ rest) =
    made_of (λ literals. Ok (filter.In column negated literals.0, literals.1)) (λ literals. filter.In column negated literals) (λ v zs. refl) (tuple_stays rest)
range_stays column negated (t ∷ rest) = faulty t rest refl (λ zs. refl)

null_test_stays : {Fits : List Token → Type 0} (column : List ℕ) (xs : List Token)
    → Stays pair Fits (read.null_test_at column xs) (λ zs. read.null_test_at column (xs ++ zs))
unfolding read.null_test_at
null_test_stays column [] = cut_off (Key word.Null ∷ []) (filter.IsNull column false) refl said_null (λ zs z. refl)
null_test_stays column (Key word.Null ∷ rest) = reads (filter.IsNull column false) rest refl (λ zs. refl)
null_test_stays column (Key word.Not ∷ rest) =
    made_of (λ r. Ok (filter.IsNull column true, r)) (λ u. filter.IsNull column true) (λ u zs. refl) (null_stays rest)
null_test_stays column (t ∷ rest) = faulty t rest refl (λ zs. refl)

column_stays : {Fits : List Token → Type 0} (column : List ℕ) (xs : List Token)
    → Stays pair Fits (read.column_test_at column xs) (λ zs. read.column_test_at column (xs ++ zs))
unfolding read.column_test_at read.range_test_at read.between_at lit_at
column_stays column [] = cut_off a_range (filter.Between column false (plain_number (48 ∷ [])) (plain_number (48 ∷ []))) refl said_range (λ zs z. refl)
column_stays column (Key word.Not ∷ rest) = range_stays column true rest
column_stays column (Key word.Is ∷ rest) = null_test_stays column rest
column_stays column (t ∷ rest) = range_stays column false (t ∷ rest)

test_stays : {Fits : List Token → Type 0} (left : Operand) (xs : List Token) → Stays pair Fits (read.test_at left xs) (λ zs. read.test_at left (xs ++ zs))
unfolding read.test_at read.oper_at read.column_test_at read.range_test_at lit_at
test_stays (operand.Column name) [] =
    cut_off (Compare Equal ∷ Zero ∷ []) (filter.Compare (operand.Column name) Equal (operand.Literal (plain_number (48 ∷ [])))) refl
    (said_before (Compare Equal) (Zero ∷ []) said_equal said_zero) (λ zs z. refl)
test_stays (operand.Literal value) [] =
    cut_off (Compare Equal ∷ Zero ∷ []) (filter.Compare (operand.Literal value) Equal (operand.Literal (plain_number (48 ∷ [])))) refl
    (said_before (Compare Equal) (Zero ∷ []) said_equal said_zero) (λ zs z. refl)
test_stays left (Compare how ∷ rest) =
    made_of (λ right. Ok (filter.Compare left how right.0, right.1)) (λ right. filter.Compare left how right) (λ v zs. refl) (oper_stays rest)
test_stays (operand.Column name) (t ∷ rest) = column_stays name (t ∷ rest)
test_stays (operand.Literal value) (t ∷ rest) = faulty t rest refl (λ zs. refl)

test_none : (left : Operand) → read.test_at left [] ≡ Err []
unfolding read.test_at read.column_test_at read.range_test_at
test_none (operand.Column name) = refl
test_none (operand.Literal value) = refl

atom_stays : {Fits : List Token → Type 0} (xs : List Token) → Stays pair Fits (read.atom_at xs) (λ zs. read.atom_at (xs ++ zs))
unfolding read.atom_at
atom_stays xs =
    then (λ left. read.test_at left.0 left.1) (oper_stays xs) (λ left t rest e. test_stays left (t ∷ rest))
    (λ left. firmly (read.test_at left) (test_none left) (test_stays left []))

-- ---- the stack

abbrev all : List Mark → List Token → Result (List Token) (List Token)
all waiting xs = steps (length xs) waiting xs

-- the steps from behind an operand
abbrev behind : List Mark → List Token → Result (List Token) (List Token)
behind waiting xs = settle waiting xs >>= resume all

abbrev Within : ℕ → Stage → Type 0
Within n (Whole rest) = Unit {0}
Within n (More waiting rest) = length rest < n

settle_within : (waiting : List Mark) (xs : List Token) (n : ℕ) → length xs ≤ n → IfOk (settle waiting xs) (Within n)
unfolding settle close follow_of
settle_within [] [] n le = tt
settle_within [] (Key word.And ∷ rest) n le = omega (arith, le)
settle_within [] (Key word.Or ∷ rest) n le = omega (arith, le)
settle_within [] (Close ∷ rest) n le = tt
settle_within [] (t ∷ rest) n le = tt
settle_within (Negation ∷ below) xs n le = settle_within below xs n le
settle_within (Conjunction ∷ below) xs n le = settle_within below xs n le
settle_within (Bracket ∷ below) [] n le = tt
settle_within (Bracket ∷ below) (Key word.And ∷ rest) n le = omega (arith, le)
settle_within (Bracket ∷ below) (Key word.Or ∷ rest) n le = omega (arith, le)
settle_within (Bracket ∷ below) (Close ∷ rest) n le = settle_within below rest n (omega (arith, le))
settle_within (Bracket ∷ below) (t ∷ rest) n le = tt
settle_within (Disjunction ∷ below) [] n le = settle_within below [] n le
settle_within (Disjunction ∷ below) (Key word.And ∷ rest) n le = omega (arith, le)
settle_within (Disjunction ∷ below) (Key word.Or ∷ rest) n le = settle_within below (Key word.Or ∷ rest) n le
settle_within (Disjunction ∷ below) (Close ∷ rest) n le = settle_within below (Close ∷ rest) n le
settle_within (Disjunction ∷ below) (t ∷ rest) n le = settle_within below (t ∷ rest) n le

atom_shrinks : (xs : List Token) → IfOk (read.atom_at xs) (λ r. length r.1 < length xs)
atom_shrinks xs = weaker (read.atom_at xs) (λ r. Atom xs r.0 r.1) (λ r. length r.1 < length xs) (atom_sound xs) (λ r a. atom_shorter a)

atom_within : (waiting : List Mark) (xs : List Token) → IfOk (atom_step waiting xs) (Within (length xs))
unfolding atom_step
atom_within waiting xs =
    bind (read.atom_at xs) (λ atom. settle waiting atom.1) (λ r. length r.1 < length xs) (Within (length xs)) (atom_shrinks xs)
    (λ atom lt. settle_within waiting atom.1 (length xs) (omega (arith, lt)))

operand_within : (waiting : List Mark) (xs : List Token) → IfOk (operand_step waiting xs) (Within (length xs))
unfolding operand_step
operand_within waiting [] = atom_within waiting []
operand_within waiting (Key word.Not ∷ rest) = omega arith
operand_within waiting (Open ∷ rest) = omega arith
operand_within waiting (t ∷ rest) = atom_within waiting (t ∷ rest)

nothing_operand : (waiting : List Mark) → operand_step waiting [] ≡ Err []
unfolding operand_step atom_step read.atom_at read.oper_at lit_at
nothing_operand waiting = refl

resume_same : (more others : List Mark → List Token → Result (List Token) (List Token)) (n : ℕ) (r : Result Stage (List Token)) → IfOk r (Within (suc n))
    → ((waiting : List Mark) (ys : List Token) → length ys ≤ n → more waiting ys ≡ others waiting ys)
    → (r >>= resume more) ≡ (r >>= resume others)
resume_same more others n (Err e) w same = refl
resume_same more others n (Ok (Whole rest)) w same = refl
resume_same more others n (Ok (More waiting rest)) w same = same waiting rest (omega (arith, w))

wider_stage : (n m : ℕ) (r : Result Stage (List Token)) → n ≤ m → IfOk r (Within n) → IfOk r (Within m)
wider_stage n m (Err e) le w = tt
wider_stage n m (Ok (Whole rest)) le w = tt
wider_stage n m (Ok (More waiting rest)) le w = omega (arith, le, w)

same_steps : (n m : ℕ) (waiting : List Mark) (xs : List Token) → length xs ≤ n → length xs ≤ m → steps n waiting xs ≡ steps m waiting xs
unfolding steps
same_steps zero zero waiting xs le lf = refl
same_steps zero (suc m) waiting [] le lf = rw (nothing_operand waiting) refl
same_steps zero (suc m) waiting (t ∷ xs) le lf = absurd (omega (arith, le))
same_steps (suc n) zero waiting [] le lf = rw (nothing_operand waiting) refl
same_steps (suc n) zero waiting (t ∷ xs) le lf = absurd (omega (arith, lf))
same_steps (suc n) (suc m) waiting [] le lf = rw (nothing_operand waiting) refl
same_steps (suc n) (suc m) waiting (t ∷ xs) le lf =
    resume_same (steps n) (steps m) (length xs) (operand_step waiting (t ∷ xs))
    (wider_stage (length (t ∷ xs)) (suc (length xs)) (operand_step waiting (t ∷ xs)) (omega arith) (operand_within waiting (t ∷ xs)))
    (λ more ys less. same_steps n m more ys (omega (arith, less, le)) (omega (arith, less, lf)))

one_step : (waiting : List Mark) (xs : List Token) → all waiting xs ≡ (operand_step waiting xs >>= resume all)
unfolding steps
one_step waiting xs =
    let more : all waiting xs ≡ steps (suc (length xs)) waiting xs = same_steps (length xs) (suc (length xs)) waiting xs (omega arith) (omega arith) in
    more ∙ resume_same (steps (length xs)) all (length xs) (operand_step waiting xs)
    (wider_stage (length xs) (suc (length xs)) (operand_step waiting xs) (omega arith) (operand_within waiting xs))
    (λ after ys le. same_steps (length xs) (length ys) after ys le (omega arith))

-- ---- closing what is open

abbrev closers : List Mark → List Token
closers [] = []
closers (Negation ∷ below) = closers below
closers (Bracket ∷ below) = Close ∷ closers below
closers (Conjunction ∷ below) = closers below
closers (Disjunction ∷ below) = closers below

said_closers : (waiting : List Mark) → Said (closers waiting)
said_closers [] = said_nothing
said_closers (Negation ∷ below) = said_closers below
said_closers (Bracket ∷ below) = said_before Close (closers below) said_close (said_closers below)
said_closers (Conjunction ∷ below) = said_closers below
said_closers (Disjunction ∷ below) = said_closers below

apart_closers : (waiting : List Mark) {zs : List Token} → Apart zs → Apart (closers waiting ++ zs)
apart_closers [] z = z
apart_closers (Negation ∷ below) z = apart_closers below z
apart_closers (Bracket ∷ below) z = at_close
apart_closers (Conjunction ∷ below) z = apart_closers below z
apart_closers (Disjunction ∷ below) z = apart_closers below z

apart_whole : {zs : List Token} → Apart zs → settle [] zs ≡ Ok (Whole zs)
unfolding settle follow_of
apart_whole at_end = refl
apart_whole at_close = refl
apart_whole at_from = refl
apart_whole at_values = refl
apart_whole at_name = refl

apart_goes : (below : List Mark) {zs : List Token} → Apart zs → settle (Disjunction ∷ below) zs ≡ settle below zs
unfolding settle close follow_of
apart_goes below at_end = refl
apart_goes below at_close = refl
apart_goes below at_from = refl
apart_goes below at_values = refl
apart_goes below at_name = refl

closed : (waiting : List Mark) (zs : List Token) → Apart zs → settle waiting (closers waiting ++ zs) ≡ Ok (Whole zs)
unfolding settle close follow_of
closed [] zs z = apart_whole z
closed (Negation ∷ below) zs z = closed below zs z
closed (Bracket ∷ below) zs z = closed below zs z
closed (Conjunction ∷ below) zs z = closed below zs z
closed (Disjunction ∷ below) zs z = apart_goes below (apart_closers below z) ∙ closed below zs z

all_closed : (waiting : List Mark) (zs : List Token) → Apart zs → behind waiting (closers waiting ++ zs) ≡ Ok zs
all_closed waiting zs z = rw (closed waiting zs z) refl

-- whether a bracket is open
data Opens (waiting : List Mark) : Type 0 where
  none : closers waiting ≡ [] → settle waiting [] ≡ Ok (Whole []) → Opens waiting
  some : settle waiting [] ≡ Err [] → Opens waiting

opens : (waiting : List Mark) → Opens waiting
unfolding settle close follow_of
opens [] = none refl refl
opens (Negation ∷ below) = again (opens below)
  where
    again : Opens below → Opens (Negation ∷ below)
    again (none c e) = none c e
    again (some e) = some e
opens (Bracket ∷ below) = some refl
opens (Conjunction ∷ below) = again (opens below)
  where
    again : Opens below → Opens (Conjunction ∷ below)
    again (none c e) = none c e
    again (some e) = some e
opens (Disjunction ∷ below) = again (opens below)
  where
    again : Opens below → Opens (Disjunction ∷ below)
    again (none c e) = none c e
    again (some e) = some e

abbrev BehindStays : List Mark → List Token → Type 0
BehindStays waiting xs = Stays alone Apart (behind waiting xs) (λ zs. behind waiting (xs ++ zs))

abbrev AllStays : List Mark → List Token → Type 0
AllStays waiting xs = Stays alone Apart (all waiting xs) (λ zs. all waiting (xs ++ zs))

behind_nothing : (waiting : List Mark) → BehindStays waiting []
behind_nothing waiting = by_brackets (opens waiting)
  where
    by_brackets : Opens waiting → BehindStays waiting []
    by_brackets (none c e) = took_all tt (rw e refl) (λ zs z. subst (λ (ts : List Token). behind waiting (ts ++ zs) ≡ Ok zs) c (all_closed waiting zs z))
    by_brackets (some e) = cut_off (closers waiting) tt (rw e refl) (said_closers waiting) (λ zs z. all_closed waiting zs z)

behind_starts : (waiting : List Mark) → Starts alone Any Apart (behind waiting)
behind_starts waiting = by_brackets (opens waiting)
  where
    by_brackets : Opens waiting → Starts alone Any Apart (behind waiting)
    by_brackets (none c e) =
        unsaid tt (rw e refl) (λ zs z. tt) (λ zs z. subst (λ (ts : List Token). behind waiting (ts ++ zs) ≡ Ok zs) c (all_closed waiting zs z))
    by_brackets (some e) = wanted (closers waiting) tt (rw e refl) (said_closers waiting) (λ zs z. tt) (λ zs z. all_closed waiting zs z)

behind_stays : (n : ℕ) → ((waiting : List Mark) (ys : List Token) → length ys < n → AllStays waiting ys) → (waiting : List Mark) (xs : List Token)
    → length xs ≤ n → BehindStays waiting xs
unfolding settle close follow_of
behind_stays n again waiting [] le = behind_nothing waiting
behind_stays n again [] (Key word.And ∷ rest) le = again (Conjunction ∷ []) rest (omega (arith, le))
behind_stays n again [] (Key word.Or ∷ rest) le = again (Disjunction ∷ []) rest (omega (arith, le))
behind_stays n again [] (t ∷ rest) le = took tt t rest refl (λ zs. refl)
behind_stays n again (Negation ∷ below) (t ∷ rest) le = behind_stays n again below (t ∷ rest) le
behind_stays n again (Conjunction ∷ below) (t ∷ rest) le = behind_stays n again below (t ∷ rest) le
behind_stays n again (Bracket ∷ below) (Key word.And ∷ rest) le = again (Conjunction ∷ Bracket ∷ below) rest (omega (arith, le))
behind_stays n again (Bracket ∷ below) (Key word.Or ∷ rest) le = again (Disjunction ∷ Bracket ∷ below) rest (omega (arith, le))
behind_stays n again (Bracket ∷ below) (Close ∷ rest) le = behind_stays n again below rest (omega (arith, le))
behind_stays n again (Bracket ∷ below) (t ∷ rest) le = faulty t rest refl (λ zs. refl)
behind_stays n again (Disjunction ∷ below) (Key word.And ∷ rest) le = again (Conjunction ∷ Disjunction ∷ below) rest (omega (arith, le))
behind_stays n again (Disjunction ∷ below) (t ∷ rest) le = behind_stays n again below (t ∷ rest) le

-- ---- an operand

zero_is_zero : Filter
zero_is_zero = filter.Compare (operand.Literal (plain_number (48 ∷ []))) Equal (operand.Literal (plain_number (48 ∷ [])))

abbrev a_test : List Token
a_test = Zero ∷ Compare Equal ∷ Zero ∷ []

said_test : Said a_test
said_test = said_before Zero (Compare Equal ∷ Zero ∷ []) said_zero (said_before (Compare Equal) (Zero ∷ []) said_equal said_zero)

test_goes_on : (waiting : List Mark) (zs : List Token) → Apart zs → all waiting ((a_test ++ closers waiting) ++ zs) ≡ Ok zs
unfolding operand_step atom_step read.atom_at read.oper_at read.test_at lit_at
test_goes_on waiting zs z = one_step waiting ((a_test ++ closers waiting) ++ zs) ∙ all_closed waiting zs z

nothing_stays : (waiting : List Mark) → AllStays waiting []
nothing_stays waiting =
    cut_off (a_test ++ closers waiting) tt (one_step waiting [] ∙ rw (nothing_operand waiting) refl)
    (said_both a_test (closers waiting) said_test (said_closers waiting)) (λ zs z. test_goes_on waiting zs z)

by_atom : (n : ℕ) (waiting : List Mark) (xs : List Token) → ((more : List Mark) (ys : List Token) → length ys < n → AllStays more ys) → length xs ≤ suc n
    → Stays alone Apart (read.atom_at xs >>= λ atom. behind waiting atom.1) (λ zs. read.atom_at (xs ++ zs) >>= λ atom. behind waiting atom.1)
by_atom n waiting xs again le =
    then (λ atom. behind waiting atom.1) (atom_stays xs) (λ atom t rest e. behind_stays n again waiting (t ∷ rest)
    (omega (arith, le, of_sound (read.atom_at xs) (λ r. length r.1 < length xs) (atom, t ∷ rest) (atom_shrinks xs) e)))
    (λ atom. behind_starts waiting)

pub regroup : {A B C : Type 0} (r : Result A (List Token)) (f : A → Result B (List Token)) (g : B → Result C (List Token))
    → ((r >>= f) >>= g) ≡ (r >>= λ a. f a >>= g)
regroup (Ok a) f g = refl
regroup (Err e) f g = refl

atom_steps : (waiting : List Mark) (xs : List Token) → (atom_step waiting xs >>= resume all) ≡ (read.atom_at xs >>= λ atom. behind waiting atom.1)
unfolding atom_step
atom_steps waiting xs = regroup (read.atom_at xs) (λ atom. settle waiting atom.1) (resume all)

operand_stays : (n : ℕ) (waiting : List Mark) (t : Token) (rest : List Token) → ((more : List Mark) (ys : List Token) → length ys ≤ n → AllStays more ys)
    → length rest ≤ n
    → Stays alone Apart (operand_step waiting (t ∷ rest) >>= resume all) (λ zs. operand_step waiting (t ∷ (rest ++ zs)) >>= resume all)
unfolding operand_step
operand_stays n waiting (Key word.Not) rest again le = again (Negation ∷ waiting) rest le
operand_stays n waiting Open rest again le = again (Bracket ∷ waiting) rest le
operand_stays n waiting t rest again le =
    same_stays (atom_steps waiting (t ∷ rest)) (λ zs. atom_steps waiting (t ∷ (rest ++ zs)))
    (by_atom n waiting (t ∷ rest) (λ more ys less. again more ys (omega (arith, less))) (omega (arith, le)))

all_stays : (n : ℕ) (waiting : List Mark) (xs : List Token) → length xs ≤ n → AllStays waiting xs
all_stays n waiting [] le = nothing_stays waiting
all_stays zero waiting (t ∷ rest) le = absurd (omega (arith, le))
all_stays (suc n) waiting (t ∷ rest) le =
    same_stays (one_step waiting (t ∷ rest)) (λ zs. one_step waiting (t ∷ (rest ++ zs)))
    (operand_stays n waiting t rest (λ more ys less. all_stays n more ys less) (omega (arith, le)))

pub condition_stays : (xs : List Token) → Stays alone Apart (after_condition xs) (λ zs. after_condition (xs ++ zs))
condition_stays xs = all_stays (length xs) [] xs (omega arith)
