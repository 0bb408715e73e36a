-- What an operand with the frame below it stands for.
use Rattle.std.proofs.Common.{◌≡◌, List, [], ◌∷◌, Result, Ok, Err, refl, sym, ap, ◌∙◌, subst}
use Rattle.inno_types.specs.declared.stmt.Filter.{Filter}
use Rattle.inno_types.specs.declared.stmt.Filter.TheVariants as filter
use Rattle.sql_grammar.specs.declared.token.Word.TheVariants as word
use Rattle.sql_grammar.specs.declared.token.Token.{Token}
use Rattle.sql_grammar.specs.declared.token.Token.TheVariants.{Key, Open, Close}
use Rattle.sql_grammar.specs.Grammar.{Condition, Strength, Loose, Tight, Single}
use Rattle.sql_grammar.specs.Grammar as grammar
use Rattle.sql_conditions.specs.declared.conditions.Frame.{Frame}
use Rattle.sql_conditions.specs.declared.conditions.Frame.TheVariants as frame
use Rattle.sql_conditions.specs.declared.conditions.Next.{Next}
use Rattle.sql_conditions.specs.declared.conditions.Next.TheVariants as next
use Rattle.sql_conditions.specs.Conditions as read
use Rattle.sql_conditions.specs.Conditions.{HasOperand, Stands, Allows, AllowsAnd, AllowsOr, BeginsNoAnd, follow_of, Follow, marks, mark_of, close}

pub loosely : {xs ys : List Token} {f : Filter} → (s : Strength) → Condition s xs f ys → Condition Loose xs f ys
loosely Loose c = c
loosely Tight c = grammar.conj c
loosely Single c = grammar.conj (grammar.neg c)

-- ---- what stands behind an operand

and_follows : (tokens rest : List Token) → follow_of tokens ≡ read.And rest → tokens ≡ Key word.And ∷ rest
unfolding follow_of
and_follows [] rest e = cc
and_follows (Key word.And ∷ tokens) rest e = let same : tokens ≡ rest = cc in ap (λ (r : List Token). Key word.And ∷ r) same
and_follows (Key word.Or ∷ tokens) rest e = cc
and_follows (Close ∷ tokens) rest e = cc
and_follows (other ∷ tokens) rest e = cc

or_follows : (tokens rest : List Token) → follow_of tokens ≡ read.Or rest → tokens ≡ Key word.Or ∷ rest
unfolding follow_of
or_follows [] rest e = cc
or_follows (Key word.And ∷ tokens) rest e = cc
or_follows (Key word.Or ∷ tokens) rest e = let same : tokens ≡ rest = cc in ap (λ (r : List Token). Key word.Or ∷ r) same
or_follows (Close ∷ tokens) rest e = cc
or_follows (other ∷ tokens) rest e = cc

closing_follows : (tokens rest : List Token) → follow_of tokens ≡ read.Closing rest → tokens ≡ Close ∷ rest
unfolding follow_of
closing_follows [] rest e = cc
closing_follows (Key word.And ∷ tokens) rest e = cc
closing_follows (Key word.Or ∷ tokens) rest e = cc
closing_follows (Close ∷ tokens) rest e = let same : tokens ≡ rest = cc in ap (λ (r : List Token). Close ∷ r) same
closing_follows (other ∷ tokens) rest e = cc

-- no AND follows
abbrev pub NoAnd : Follow → Type 0
NoAnd (read.And rest) = ⊥
NoAnd (read.Or rest) = Unit {0}
NoAnd (read.Closing rest) = Unit {0}
NoAnd read.Other = Unit {0}

no_and_follows : (tokens : List Token) → NoAnd (follow_of tokens) → BeginsNoAnd tokens
unfolding follow_of
no_and_follows [] h = tt
no_and_follows (Key word.And ∷ tokens) h = h
no_and_follows (Key word.Or ∷ tokens) h = tt
no_and_follows (Close ∷ tokens) h = tt
no_and_follows (other ∷ tokens) h = tt

-- ---- an operand with the frame below it

not_closes : (all : List Token) (below : List Frame) (f : Filter) (p : _) (tokens : List Token) (s : Strength) (start : List Token) → Condition s start f tokens → Allows s (frame.Not ∷ below) tokens → Stands all below (Key word.Not ∷ start)
    → HasOperand all below (filter.Not' p f) tokens
not_closes all below f p tokens Loose start c a st = absurd a.0
not_closes all below f p tokens Tight start c a st = absurd a
not_closes all below f p tokens Single start c a st = record { strength = Single; start = Key word.Not ∷ start; spelled = grammar.not c; allowed = tt; below = st }

and_closes : (all : List Token) (below : List Frame) (left f : Filter) (p q : _) (tokens : List Token) (s : Strength) (start : List Token) → Condition s start f tokens → Allows s (frame.And left ∷ below) tokens
    → (first : List Token) → Condition Tight first left (Key word.And ∷ start) → AllowsAnd below → Stands all below first → HasOperand all below (filter.And' p left q f) tokens
and_closes all below left f p q tokens Loose start c a first l b st = absurd a.0
and_closes all below left f p q tokens Tight start c a first l b st = absurd a
and_closes all below left f p q tokens Single start c a first l b st = record { strength = Tight; start = first; spelled = grammar.and l c; allowed = b; below = st }

or_closes : (all : List Token) (below : List Frame) (left f : Filter) (p q : _) (tokens : List Token) (s : Strength) (start : List Token) → Condition s start f tokens → Allows s (frame.Or left ∷ below) tokens
    → (first : List Token) → Condition Loose first left (Key word.Or ∷ start) → AllowsOr below → Stands all below first → BeginsNoAnd tokens → HasOperand all below (filter.Or' p left q f) tokens
or_closes all below left f p q tokens Loose start c a first l b st n = absurd a.0
or_closes all below left f p q tokens Tight start c a first l b st n = record { strength = Loose; start = first; spelled = grammar.or l c; allowed = (b, n); below = st }
or_closes all below left f p q tokens Single start c a first l b st n = record { strength = Loose; start = first; spelled = grammar.or l (grammar.neg c); allowed = (b, n); below = st }

and_waits : (all : List Token) (frames : List Frame) (f : Filter) (rest : List Token) (s : Strength) (start : List Token) → Condition s start f (Key word.And ∷ rest) → Allows s frames (Key word.And ∷ rest) → AllowsAnd frames → Stands all frames start
    → Stands all (frame.And f ∷ frames) rest
and_waits all frames f rest Loose start c a b st = absurd a.1
and_waits all frames f rest Tight start c a b st = (start, c, b, st)
and_waits all frames f rest Single start c a b st = (start, grammar.neg c, b, st)

pub closes_not : (all : List Token) (fr : Frame) (below : List Frame) (f g : Filter) (p : _) (tokens : List Token) → fr ≡ frame.Not → g ≡ f → HasOperand all (fr ∷ below) f tokens → HasOperand all below (filter.Not' p g) tokens
closes_not all fr below f g p tokens e i h =
    let k = subst (λ (fr : Frame). HasOperand all (fr ∷ below) f tokens) e h in
    subst (λ (f : Filter). HasOperand all below (filter.Not' p f) tokens) (sym i) (not_closes all below f p tokens k.strength k.start k.spelled k.allowed k.below)

pub closes_and : (all : List Token) (fr : Frame) (below : List Frame) (left f l g : Filter) (p q : _) (tokens : List Token) → fr ≡ frame.And left → l ≡ left → g ≡ f → HasOperand all (fr ∷ below) f tokens → HasOperand all below (filter.And' p l q g) tokens
closes_and all fr below left f l g p q tokens e i j h =
    let k = subst (λ (fr : Frame). HasOperand all (fr ∷ below) f tokens) e h in
    let one = and_closes all below left f p q tokens k.strength k.start k.spelled k.allowed k.below.0 k.below.1 k.below.2 k.below.3 in
    let two = subst (λ (l : Filter). HasOperand all below (filter.And' p l q f) tokens) (sym i) one in
    subst (λ (g : Filter). HasOperand all below (filter.And' p l q g) tokens) (sym j) two

pub closes_or : (all : List Token) (below : List Frame) (left f l g : Filter) (p q : _) (tokens : List Token) → NoAnd (follow_of tokens) → l ≡ left → g ≡ f → HasOperand all (frame.Or left ∷ below) f tokens → HasOperand all below (filter.Or' p l q g) tokens
closes_or all below left f l g p q tokens n i j k =
    let one = or_closes all below left f p q tokens k.strength k.start k.spelled k.allowed k.below.0 k.below.1 k.below.2 k.below.3 (no_and_follows tokens n) in
    let two = subst (λ (l : Filter). HasOperand all below (filter.Or' p l q f) tokens) (sym i) one in
    subst (λ (g : Filter). HasOperand all below (filter.Or' p l q g) tokens) (sym j) two

pub closes_bracket : (all : List Token) (below : List Frame) (f : Filter) (tokens rest : List Token) → follow_of tokens ≡ read.Closing rest → HasOperand all (frame.Open ∷ below) f tokens → HasOperand all below f rest
closes_bracket all below f tokens rest e h =
    let k = subst (λ (ts : List Token). HasOperand all (frame.Open ∷ below) f ts) (closing_follows tokens rest e) h in
    record { strength = Single; start = Open ∷ k.start; spelled = grammar.brackets (loosely k.strength k.spelled); allowed = tt; below = k.below }

pub waits_and : (all : List Token) (frames pushed : List Frame) (f : Filter) (tokens rest : List Token) → pushed ≡ frame.And f ∷ frames → AllowsAnd frames → follow_of tokens ≡ read.And rest → HasOperand all frames f tokens → Stands all pushed rest
waits_and all frames pushed f tokens rest p b e h =
    let k = subst (λ (ts : List Token). HasOperand all frames f ts) (and_follows tokens rest e) h in
    subst (λ (fs : List Frame). Stands all fs rest) (sym p) (and_waits all frames f rest k.strength k.start k.spelled k.allowed b k.below)

pub waits_or : (all : List Token) (frames pushed : List Frame) (f : Filter) (tokens rest : List Token) → pushed ≡ frame.Or f ∷ frames → AllowsOr frames → follow_of tokens ≡ read.Or rest → HasOperand all frames f tokens → Stands all pushed rest
waits_or all frames pushed f tokens rest p b e h =
    let k = subst (λ (ts : List Token). HasOperand all frames f ts) (or_follows tokens rest e) h in
    subst (λ (fs : List Frame). Stands all fs rest) (sym p) (k.start, loosely k.strength k.spelled, b, k.below)

-- ---- the step that is made

pub waits_in_disjunction : (left f : Filter) (below pushed : List Frame) (tokens rest : List Token) → pushed ≡ frame.And f ∷ frame.Or left ∷ below → follow_of tokens ≡ read.And rest
    → close read.Disjunction (marks below) tokens ≡ Ok (read.Wants (marks pushed) rest)
unfolding close
waits_in_disjunction left f below pushed tokens rest p e = rw (e, p) refl

abbrev as_step : read.Step → Result read.Step (List Token)
as_step s = Ok s

pub goes_in_disjunction : (below : List Frame) (tokens : List Token) → NoAnd (follow_of tokens) → close read.Disjunction (marks below) tokens ≡ Ok (read.Goes tokens)
unfolding close
goes_in_disjunction below tokens n = go (follow_of tokens) n
  where
    go : (f : Follow) → NoAnd f → as_step (read.in_disjunction (marks below) tokens f) ≡ as_step (read.Goes tokens)
    go (read.And rest) n = absurd n
    go (read.Or rest) n = refl
    go (read.Closing rest) n = refl
    go read.Other n = refl

pub and_in_brackets : (f : Filter) (below pushed : List Frame) (tokens rest : List Token) → pushed ≡ frame.And f ∷ frame.Open ∷ below → follow_of tokens ≡ read.And rest
    → close read.Bracket (marks below) tokens ≡ Ok (read.Wants (marks pushed) rest)
unfolding close
and_in_brackets f below pushed tokens rest p e = rw (e, p) refl

pub or_in_brackets : (f : Filter) (below pushed : List Frame) (tokens rest : List Token) → pushed ≡ frame.Or f ∷ frame.Open ∷ below → follow_of tokens ≡ read.Or rest
    → close read.Bracket (marks below) tokens ≡ Ok (read.Wants (marks pushed) rest)
unfolding close
or_in_brackets f below pushed tokens rest p e = rw (e, p) refl

pub closing_in_brackets : (below : List Frame) (tokens rest : List Token) → follow_of tokens ≡ read.Closing rest → close read.Bracket (marks below) tokens ≡ Ok (read.Goes rest)
unfolding close
closing_in_brackets below tokens rest e = rw e refl

pub open_in_brackets : (below : List Frame) (tokens : List Token) → follow_of tokens ≡ read.Other → close read.Bracket (marks below) tokens ≡ Err tokens
unfolding close
open_in_brackets below tokens e = rw e refl

pub no_and_at : (n : Next) (tokens : List Token) → read.follow_by n ≡ follow_of tokens → ((rest : _) → n ≡ next.And rest → ⊥) → NoAnd (follow_of tokens)
no_and_at n tokens e k = subst NoAnd e (go n k)
  where
    go : (n : Next) → ((rest : _) → n ≡ next.And rest → ⊥) → NoAnd (read.follow_by n)
    go (next.And rest) k = k rest refl
    go (next.Or rest) k = tt
    go (next.Close rest) k = tt
    go next.Other k = tt

-- ---- nothing below

pub on_bottom : {A : Type 0} {a : A} {old new : List A} → new ≡ a ∷ old → old ≡ [] → new ≡ a ∷ []
on_bottom {a = a} e f = e ∙ ap (λ (xs : List _). a ∷ xs) f

pub and_at_bottom : (f : Filter) (new : List Frame) (tokens rest : List Token) → new ≡ frame.And f ∷ [] → follow_of tokens ≡ read.And rest → read.settle [] tokens ≡ Ok (read.More (marks new) rest)
unfolding read.settle
and_at_bottom f new tokens rest n e = rw (e, n) refl

pub or_at_bottom : (f : Filter) (new : List Frame) (tokens rest : List Token) → new ≡ frame.Or f ∷ [] → follow_of tokens ≡ read.Or rest → read.settle [] tokens ≡ Ok (read.More (marks new) rest)
unfolding read.settle
or_at_bottom f new tokens rest n e = rw (e, n) refl

abbrev pub NoOperator : Follow → Type 0
NoOperator (read.And rest) = ⊥
NoOperator (read.Or rest) = ⊥
NoOperator (read.Closing rest) = Unit {0}
NoOperator read.Other = Unit {0}

pub no_operator_at : (n : Next) (tokens : List Token) → read.follow_by n ≡ follow_of tokens → ((rest : _) → n ≡ next.And rest → ⊥) → ((rest : _) → n ≡ next.Or rest → ⊥) → NoOperator (follow_of tokens)
no_operator_at n tokens e k l = subst NoOperator e (go n k l)
  where
    go : (n : Next) → ((rest : _) → n ≡ next.And rest → ⊥) → ((rest : _) → n ≡ next.Or rest → ⊥) → NoOperator (read.follow_by n)
    go (next.And rest) k l = k rest refl
    go (next.Or rest) k l = l rest refl
    go (next.Close rest) k l = tt
    go next.Other k l = tt

abbrev as_stage : read.Stage → Result read.Stage (List Token)
as_stage s = Ok s

pub whole_at_bottom : (tokens : List Token) → NoOperator (follow_of tokens) → read.settle [] tokens ≡ Ok (read.Whole tokens)
unfolding read.settle
whole_at_bottom tokens n = go (follow_of tokens) n
  where
    go : (f : Follow) → NoOperator f → as_stage (read.at_bottom tokens f) ≡ as_stage (read.Whole tokens)
    go (read.And rest) n = absurd n
    go (read.Or rest) n = absurd n
    go (read.Closing rest) n = refl
    go read.Other n = refl

pub whole_condition : (all : List Token) (f : Filter) (tokens : List Token) → HasOperand all [] f tokens → Condition Loose all f tokens
whole_condition all f tokens h = subst (λ (ts : List Token). Condition Loose ts f tokens) h.below (loosely h.strength h.spelled)
