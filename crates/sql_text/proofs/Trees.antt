-- What is read has a tree, wherever its boxes lie: conditions and expressions.
use Rattle.std.proofs.Common.{◌≡◌, ℕ, zero, suc, List, [], ◌∷◌, length, Result, Ok, IfOk, Box, Global, refl, subst}
use Rattle.std.specs.Ptr.{null_ptr}
use Rattle.inno_types.specs.declared.stmt.Filter.{Filter}
use Rattle.inno_types.specs.declared.stmt.Filter.TheVariants as filter
use Rattle.inno_types.specs.declared.stmt.Expr.{Expr}
use Rattle.inno_types.specs.declared.stmt.Expr.TheVariants as expr
use Rattle.sql_grammar.specs.declared.token.Word.TheVariants as word
use Rattle.sql_grammar.specs.declared.token.Token.{Token}
use Rattle.sql_grammar.specs.declared.token.Token.TheVariants.{Key, Bare, Quoted, Number, Open, Close, Star, Plus, Minus}
use Rattle.sql_grammar.specs.Grammar.{Lit, Atom, Condition, Expression, Loose, Single}
use Rattle.sql_grammar.specs.Grammar as grammar
use Rattle.sql_conditions.specs.Parts.{lit_at}
use Rattle.sql_conditions.proofs.Sound.{bind, lit_sound}
use Rattle.sql_conditions.specs.declared.conditions.Frame.{Frame as Kept}
use Rattle.sql_conditions.specs.declared.conditions.Frame.TheVariants as kept
use Rattle.sql_conditions.specs.declared.expressions.Frame.{Frame}
use Rattle.sql_conditions.specs.declared.expressions.Frame.TheVariants as frame
use Rattle.sql_conditions.specs.Atoms.{atom_at}
use Rattle.sql_conditions.specs.Conditions as conditions
use Rattle.sql_conditions.specs.Expressions as expressions
use Rattle.sql_conditions.proofs.SoundAtoms.{atom_sound}
use Rattle.sql_conditions.proofs.Waiting as waiting
use Rattle.sql_conditions.proofs.Operands as operands

-- a box somewhere
place : Box (Unit {0}) Global
place = record { ptr = null_ptr; alloc = record { memory = record { seal = tt } }; value = tt }

-- ---- expressions

abbrev GoodStage : List Token → expressions.Stage → Type 0
GoodStage all (expressions.Whole rest) = (e : Expr) × Expression Loose all e rest
GoodStage all (expressions.More marks rest) = (frames : List Frame) × (expressions.marks frames ≡ marks) × expressions.Stands all frames rest

whole_expression : (all : List Token) (f : Expr) (tokens : List Token) → expressions.HasOperand all [] f tokens → (e : Expr) × Expression Loose all e tokens
whole_expression all f tokens h = (f, subst (λ (ts : List Token). Expression Loose ts f tokens) h.below (operands.loosely h.strength h.spelled))

settle_good : (all : List Token) (frames : List Frame) (f : Expr) (xs : List Token) → expressions.HasOperand all frames f xs
    → IfOk (expressions.settle (expressions.marks frames) xs) (GoodStage all)
unfolding expressions.settle expressions.close expressions.follow_of
settle_good all [] f [] h = whole_expression all f [] h
settle_good all [] f (Star ∷ rest) h = (frame.Times f ∷ [], refl, operands.waits_times all [] (frame.Times f ∷ []) f (Star ∷ rest) rest refl tt refl h)
settle_good all [] f (Plus ∷ rest) h = (frame.Plus f ∷ [], refl, operands.waits_plus all [] (frame.Plus f ∷ []) f (Plus ∷ rest) rest refl tt refl h)
settle_good all [] f (Minus ∷ rest) h = (frame.Minus f ∷ [], refl, operands.waits_minus all [] (frame.Minus f ∷ []) f (Minus ∷ rest) rest refl tt refl h)
settle_good all [] f (t ∷ rest) h = whole_expression all f (t ∷ rest) h
settle_good all (frame.Negate ∷ below) f xs h =
    settle_good all below (expr.Negate' place f) xs (operands.closes_negate all frame.Negate below f f place xs refl refl h)
settle_good all (frame.Times left ∷ below) f xs h =
    settle_good all below (expr.Multiply' place left place f) xs (operands.closes_times all
    (frame.Times left) below left f left f place place xs refl refl refl h)
settle_good all (frame.Open ∷ below) f [] h = tt
settle_good all (frame.Open ∷ below) f (Star ∷ rest) h = (
  frame.Times f ∷ frame.Open ∷ below,
  refl,
  operands.waits_times all (frame.Open ∷ below) (frame.Times f ∷ frame.Open ∷ below) f
      (Star ∷ rest) rest refl tt refl h,
)
settle_good all (frame.Open ∷ below) f (Plus ∷ rest) h = (
  frame.Plus f ∷ frame.Open ∷ below,
  refl,
  operands.waits_plus all (frame.Open ∷ below) (frame.Plus f ∷ frame.Open ∷ below) f
      (Plus ∷ rest) rest refl tt refl h,
)
settle_good all (frame.Open ∷ below) f (Minus ∷ rest) h = (
  frame.Minus f ∷ frame.Open ∷ below,
  refl,
  operands.waits_minus all (frame.Open ∷ below) (frame.Minus f ∷ frame.Open ∷ below) f
      (Minus ∷ rest) rest refl tt refl h,
)
settle_good all (frame.Open ∷ below) f (Close ∷ rest) h = settle_good all below f rest (operands.closes_bracket all below f (Close ∷ rest) rest refl h)
settle_good all (frame.Open ∷ below) f (t ∷ rest) h = tt
settle_good all (frame.Plus left ∷ below) f (Star ∷ rest) h = (
  frame.Times f ∷ frame.Plus left ∷ below,
  refl,
  operands.waits_times all (frame.Plus left ∷ below) (frame.Times f ∷ frame.Plus left ∷ below) f
      (Star ∷ rest) rest refl tt refl h,
)
settle_good all (frame.Plus left ∷ below) f [] h =
    settle_good all below (expr.Add' place left place f) [] (operands.closes_plus all below left f left f place place [] tt refl refl h)
settle_good all (frame.Plus left ∷ below) f (t ∷ rest) h =
    settle_good all below (expr.Add' place left place f) (t ∷ rest) (operands.closes_plus all below left f left f place place (t ∷ rest) tt refl refl h)
settle_good all (frame.Minus left ∷ below) f (Star ∷ rest) h = (
  frame.Times f ∷ frame.Minus left ∷ below,
  refl,
  operands.waits_times all (frame.Minus left ∷ below) (frame.Times f ∷ frame.Minus left ∷ below) f
      (Star ∷ rest) rest refl tt refl h,
)
settle_good all (frame.Minus left ∷ below) f [] h =
    settle_good all below (expr.Subtract' place left place f) [] (operands.closes_minus all below left f left f place place [] tt refl refl h)
settle_good all (frame.Minus left ∷ below) f (t ∷ rest) h =
    settle_good all below (expr.Subtract' place left place f) (t ∷ rest) (operands.closes_minus all below left f left f place place (t ∷ rest) tt refl refl h)

value_sound : (xs : List Token) → IfOk (expressions.value_at xs) (λ r. Expression Single xs r.0 r.1)
unfolding expressions.value_at lit_at
value_sound [] = tt
value_sound (Bare meaning name ∷ rest) = grammar.of_column grammar.bare
value_sound (Quoted name ∷ rest) = grammar.of_column grammar.quoted
value_sound (t ∷ rest) =
    bind {B = Expr × List Token} (lit_at (t ∷ rest)) (λ value. Ok (expr.Literal value.0, value.1)) (λ r. Lit (t ∷ rest) r.0 r.1)
    (λ r. Expression Single (t ∷ rest) r.0 r.1) (lit_sound (t ∷ rest)) (λ r l. grammar.of_literal l)

value_good : (all : List Token) (frames : List Frame) (xs : List Token) → expressions.Stands all frames xs
    → IfOk (expressions.value_step (expressions.marks frames) xs) (GoodStage all)
unfolding expressions.value_step
value_good all frames xs st =
    bind (expressions.value_at xs) (λ value. expressions.settle (expressions.marks frames) value.1) (λ r. Expression Single xs r.0 r.1) (GoodStage all)
    (value_sound xs)
    (λ value v. settle_good all frames value.0 value.1 (record { strength = Single; start = xs; spelled = v; allowed = tt; below = st }))

operand_good : (all : List Token) (frames : List Frame) (xs : List Token) → expressions.Stands all frames xs
    → IfOk (expressions.operand_step (expressions.marks frames) xs) (GoodStage all)
unfolding expressions.operand_step expressions.opening_of
operand_good all frames [] st = value_good all frames [] st
operand_good all frames (Minus ∷ []) st = (frame.Negate ∷ frames, refl, (tt, st))
operand_good all frames (Minus ∷ Number digits ∷ rest) st = value_good all frames (Minus ∷ Number digits ∷ rest) st
operand_good all frames (Minus ∷ t ∷ rest) st = (frame.Negate ∷ frames, refl, (tt, st))
operand_good all frames (Open ∷ rest) st = (frame.Open ∷ frames, refl, st)
operand_good all frames (t ∷ rest) st = value_good all frames (t ∷ rest) st

abbrev HasExpression : List Token → List Token → Type 0
HasExpression all rest = (e : Expr) × Expression Loose all e rest

resumed : (all : List Token) (more : List expressions.Mark → List Token → Result (List Token) (List Token))
    → ((frames : List Frame) (xs : List Token) → expressions.Stands all frames xs → IfOk (more (expressions.marks frames) xs) (HasExpression all))
    → (stage : expressions.Stage) → GoodStage all stage
    → IfOk (expressions.resume more stage) (HasExpression all)
resumed all more again (expressions.Whole rest) good = good
resumed all more again (expressions.More marks rest) good =
    subst (λ (ms : List expressions.Mark). IfOk (more ms rest) (HasExpression all)) good.1 (again good.0 rest good.2)

steps_good : (all : List Token) (n : ℕ) (frames : List Frame) (xs : List Token) → expressions.Stands all frames xs
    → IfOk (expressions.steps n (expressions.marks frames) xs) (HasExpression all)
unfolding expressions.steps
steps_good all zero frames xs st = tt
steps_good all (suc n) frames xs st =
    bind (expressions.operand_step (expressions.marks frames) xs) (λ stage. expressions.resume (expressions.steps n) stage) (GoodStage all) (HasExpression all)
    (operand_good all frames xs st)
    (λ stage good. resumed all (expressions.steps n) (λ more ys s. steps_good all n more ys s) stage good)

pub expression_sound : (xs : List Token) → IfOk (expressions.after_expression xs) (HasExpression xs)
expression_sound xs = steps_good xs (length xs) [] xs refl

-- ---- conditions

abbrev GoodTest : List Token → conditions.Stage → Type 0
GoodTest all (conditions.Whole rest) = (f : Filter) × Condition Loose all f rest
GoodTest all (conditions.More marks rest) = (frames : List Kept) × (conditions.marks frames ≡ marks) × conditions.Stands all frames rest

whole_test : (all : List Token) (f : Filter) (tokens : List Token) → conditions.HasOperand all [] f tokens → (f : Filter) × Condition Loose all f tokens
whole_test all f tokens h = (f, waiting.whole_condition all f tokens h)

test_good : (all : List Token) (frames : List Kept) (f : Filter) (xs : List Token) → conditions.HasOperand all frames f xs
    → IfOk (conditions.settle (conditions.marks frames) xs) (GoodTest all)
unfolding conditions.settle conditions.close conditions.follow_of
test_good all [] f [] h = whole_test all f [] h
test_good all [] f (Key word.And ∷ rest) h = (kept.And f ∷ [], refl, waiting.waits_and all [] (kept.And f ∷ []) f (Key word.And ∷ rest) rest refl tt refl h)
test_good all [] f (Key word.Or ∷ rest) h = (kept.Or f ∷ [], refl, waiting.waits_or all [] (kept.Or f ∷ []) f (Key word.Or ∷ rest) rest refl tt refl h)
test_good all [] f (t ∷ rest) h = whole_test all f (t ∷ rest) h
test_good all (kept.Not ∷ below) f xs h = test_good all below (filter.Not' place f) xs (waiting.closes_not all kept.Not below f f place xs refl refl h)
test_good all (kept.And left ∷ below) f xs h =
    test_good all below (filter.And' place left place f) xs (waiting.closes_and all (kept.And left) below left f left f place place xs refl refl refl h)
test_good all (kept.Open ∷ below) f [] h = tt
test_good all (kept.Open ∷ below) f (Key word.And ∷ rest) h = (
  kept.And f ∷ kept.Open ∷ below,
  refl,
  waiting.waits_and all (kept.Open ∷ below) (kept.And f ∷ kept.Open ∷ below) f
      (Key word.And ∷ rest) rest refl tt refl h,
)
test_good all (kept.Open ∷ below) f (Key word.Or ∷ rest) h =
    (kept.Or f ∷ kept.Open ∷ below, refl, waiting.waits_or all (kept.Open ∷ below) (kept.Or f ∷ kept.Open ∷ below) f (Key word.Or ∷ rest) rest refl tt refl h)
test_good all (kept.Open ∷ below) f (Close ∷ rest) h = test_good all below f rest (waiting.closes_bracket all below f (Close ∷ rest) rest refl h)
test_good all (kept.Open ∷ below) f (t ∷ rest) h = tt
test_good all (kept.Or left ∷ below) f (Key word.And ∷ rest) h = (
  kept.And f ∷ kept.Or left ∷ below,
  refl,
  waiting.waits_and all (kept.Or left ∷ below) (kept.And f ∷ kept.Or left ∷ below) f
      (Key word.And ∷ rest) rest refl tt refl h,
)
test_good all (kept.Or left ∷ below) f [] h =
    test_good all below (filter.Or' place left place f) [] (waiting.closes_or all below left f left f place place [] tt refl refl h)
test_good all (kept.Or left ∷ below) f (t ∷ rest) h =
    test_good all below (filter.Or' place left place f) (t ∷ rest) (waiting.closes_or all below left f left f place place (t ∷ rest) tt refl refl h)

atom_good : (all : List Token) (frames : List Kept) (xs : List Token) → conditions.Stands all frames xs
    → IfOk (conditions.atom_step (conditions.marks frames) xs) (GoodTest all)
unfolding conditions.atom_step
atom_good all frames xs st =
    bind (atom_at xs) (λ atom. conditions.settle (conditions.marks frames) atom.1) (λ r. Atom xs r.0 r.1) (GoodTest all) (atom_sound xs)
    (λ atom a. test_good all frames atom.0 atom.1 (record { strength = Single; start = xs; spelled = grammar.atom a; allowed = tt; below = st }))

tested_good : (all : List Token) (frames : List Kept) (xs : List Token) → conditions.Stands all frames xs
    → IfOk (conditions.operand_step (conditions.marks frames) xs) (GoodTest all)
unfolding conditions.operand_step
tested_good all frames [] st = atom_good all frames [] st
tested_good all frames (Key word.Not ∷ rest) st = (kept.Not ∷ frames, refl, st)
tested_good all frames (Open ∷ rest) st = (kept.Open ∷ frames, refl, st)
tested_good all frames (t ∷ rest) st = atom_good all frames (t ∷ rest) st

abbrev HasCondition : List Token → List Token → Type 0
HasCondition all rest = (f : Filter) × Condition Loose all f rest

tests_resumed : (all : List Token) (more : List conditions.Mark → List Token → Result (List Token) (List Token))
    → ((frames : List Kept) (xs : List Token) → conditions.Stands all frames xs → IfOk (more (conditions.marks frames) xs) (HasCondition all))
    → (stage : conditions.Stage) → GoodTest all stage
    → IfOk (conditions.resume more stage) (HasCondition all)
tests_resumed all more again (conditions.Whole rest) good = good
tests_resumed all more again (conditions.More marks rest) good =
    subst (λ (ms : List conditions.Mark). IfOk (more ms rest) (HasCondition all)) good.1 (again good.0 rest good.2)

tests_good : (all : List Token) (n : ℕ) (frames : List Kept) (xs : List Token) → conditions.Stands all frames xs
    → IfOk (conditions.steps n (conditions.marks frames) xs) (HasCondition all)
unfolding conditions.steps
tests_good all zero frames xs st = tt
tests_good all (suc n) frames xs st =
    bind (conditions.operand_step (conditions.marks frames) xs) (λ stage. conditions.resume (conditions.steps n) stage) (GoodTest all) (HasCondition all)
    (tested_good all frames xs st)
    (λ stage good. tests_resumed all (conditions.steps n) (λ more ys s. tests_good all n more ys s) stage good)

pub condition_sound : (xs : List Token) → IfOk (conditions.after_condition xs) (HasCondition xs)
condition_sound xs = tests_good xs (length xs) [] xs refl
