-- Reading an expression from left to right. Between two operands stands a stack of what waits for the right one.
use Rattle.std.specs.Prelude.{◌≡◌, ℕ, zero, suc, List, [], ◌∷◌, map, length, Result, Ok, Err}
use Rattle.inno_types.specs.declared.stmt.Expr.{Expr}
use Rattle.inno_types.specs.declared.stmt.Expr.TheVariants as expr
use Rattle.inno_types.specs.declared.stmt.Operand.{Operand}
use Rattle.inno_types.specs.declared.stmt.Operand.TheVariants as operand
use Rattle.sql_grammar.specs.declared.token.Token.{Token}
use Rattle.sql_grammar.specs.declared.token.Token.TheVariants.{Bare, Quoted, Number, Open, Close, Star, Plus, Minus}
use Rattle.sql_grammar.specs.Grammar.{Expression, Strength, Loose, Tight, Single, BeginsNoNumber}
use Rattle.sql_conditions.specs.declared.expressions.Frame.{Frame}
use Rattle.sql_conditions.specs.declared.expressions.Frame.TheVariants as frame
use Rattle.sql_conditions.specs.declared.expressions.Closed.{Closed}
use Rattle.sql_conditions.specs.declared.expressions.Closed.TheVariants as closed
use Rattle.sql_conditions.specs.declared.expressions.After.{After}
use Rattle.sql_conditions.specs.declared.expressions.After.TheVariants as after
use Rattle.sql_conditions.specs.declared.expressions.Opening.{Opening as Opens}
use Rattle.sql_conditions.specs.declared.expressions.Opening.TheVariants as opens
use Rattle.sql_conditions.specs.declared.expressions.Next.{Next}
use Rattle.sql_conditions.specs.declared.expressions.Next.TheVariants as next
use Rattle.sql_conditions.specs.Parts.{Read, ◌>>=◌, lit_at}

abbrev pub expr_of : Operand → Expr
expr_of (operand.Column name) = expr.Column name
expr_of (operand.Literal value) = expr.Literal value

-- a literal or a column
unfoldable pub value_at : List Token → Read Expr
value_at (Bare meaning name ∷ rest) = Ok (expr.Column name, rest)
value_at (Quoted name ∷ rest) = Ok (expr.Column name, rest)
value_at tokens = lit_at tokens >>= λ value. Ok (expr.Literal value.0, value.1)

-- ---- what waits for an operand

-- a minus, an open bracket, and what stands left of an operator
pub data Mark : Type 0 where
  Negation : Mark
  Bracket : Mark
  Product : Mark
  Sum : Mark
  Difference : Mark

abbrev pub mark_of : Frame → Mark
mark_of frame.Negate = Negation
mark_of frame.Open = Bracket
mark_of (frame.Times left) = Product
mark_of (frame.Plus left) = Sum
mark_of (frame.Minus left) = Difference

abbrev pub marks : List Frame → List Mark
marks frames = map mark_of frames

-- what stands behind an operand
pub data Follow : Type 0 where
  Times : List Token → Follow
  Adding : List Token → Follow
  Subtracting : List Token → Follow
  Closing : List Token → Follow
  Other : Follow

unfoldable pub follow_of : List Token → Follow
follow_of (Star ∷ rest) = Times rest
follow_of (Plus ∷ rest) = Adding rest
follow_of (Minus ∷ rest) = Subtracting rest
follow_of (Close ∷ rest) = Closing rest
follow_of rest = Other

abbrev pub follow_by : Next → Follow
follow_by (next.Times rest) = Times rest.now
follow_by (next.Plus rest) = Adding rest.now
follow_by (next.Minus rest) = Subtracting rest.now
follow_by (next.Close rest) = Closing rest.now
follow_by next.Other = Other

-- an operand with what waited for it is an operand again, or another one is wanted first
pub data Step : Type 0 where
  Goes : List Token → Step
  Wants : List Mark → List Token → Step

-- behind the right side of a sum or a difference
abbrev pub in_sum : Mark → List Mark → List Token → Follow → Step
in_sum mark below tokens (Times rest) = Wants (Product ∷ mark ∷ below) rest
in_sum mark below tokens (Adding rest) = Goes tokens
in_sum mark below tokens (Subtracting rest) = Goes tokens
in_sum mark below tokens (Closing rest) = Goes tokens
in_sum mark below tokens Other = Goes tokens

abbrev pub in_brackets : List Mark → List Token → Follow → Result Step (List Token)
in_brackets below tokens (Times rest) = Ok (Wants (Product ∷ Bracket ∷ below) rest)
in_brackets below tokens (Adding rest) = Ok (Wants (Sum ∷ Bracket ∷ below) rest)
in_brackets below tokens (Subtracting rest) = Ok (Wants (Difference ∷ Bracket ∷ below) rest)
in_brackets below tokens (Closing rest) = Ok (Goes rest)
in_brackets below tokens Other = Err tokens

unfoldable pub close : Mark → List Mark → List Token → Result Step (List Token)
close Negation below tokens = Ok (Goes tokens)
close Bracket below tokens = in_brackets below tokens (follow_of tokens)
close Product below tokens = Ok (Goes tokens)
close Sum below tokens = Ok (in_sum Sum below tokens (follow_of tokens))
close Difference below tokens = Ok (in_sum Difference below tokens (follow_of tokens))

-- the expression is whole, or another operand is wanted
pub data Stage : Type 0 where
  Whole : List Token → Stage
  More : List Mark → List Token → Stage

abbrev pub at_bottom : List Token → Follow → Stage
at_bottom tokens (Times rest) = More (Product ∷ []) rest
at_bottom tokens (Adding rest) = More (Sum ∷ []) rest
at_bottom tokens (Subtracting rest) = More (Difference ∷ []) rest
at_bottom tokens (Closing rest) = Whole tokens
at_bottom tokens Other = Whole tokens

abbrev pub carry : (List Token → Result Stage (List Token)) → Step → Result Stage (List Token)
carry below (Goes rest) = below rest
carry below (Wants waiting rest) = Ok (More waiting rest)

-- behind an operand
unfoldable pub settle : List Mark → List Token → Result Stage (List Token)
settle [] tokens = Ok (at_bottom tokens (follow_of tokens))
settle (mark ∷ below) tokens = close mark below tokens >>= λ step. carry (settle below) step

-- at a literal or a column
unfoldable pub value_step : List Mark → List Token → Result Stage (List Token)
value_step waiting tokens = value_at tokens >>= λ value. settle waiting value.1

-- a minus that is no part of a number, an open bracket, or a value
pub data Opening : Type 0 where
  Negating : List Token → Opening
  Opened : List Token → Opening
  Valued : Opening

abbrev pub opening_by : Opens → Opening
opening_by (opens.Minus rest) = Negating rest.now
opening_by (opens.Bracket rest) = Opened rest.now
opening_by opens.Value = Valued

unfoldable pub opening_of : List Token → Opening
opening_of (Minus ∷ Number digits ∷ rest) = Valued
opening_of (Minus ∷ rest) = Negating rest
opening_of (Open ∷ rest) = Opened rest
opening_of rest = Valued

abbrev pub open_step : List Mark → List Token → Opening → Result Stage (List Token)
open_step waiting tokens (Negating rest) = Ok (More (Negation ∷ waiting) rest)
open_step waiting tokens (Opened rest) = Ok (More (Bracket ∷ waiting) rest)
open_step waiting tokens Valued = value_step waiting tokens

-- where an operand is wanted
unfoldable pub operand_step : List Mark → List Token → Result Stage (List Token)
operand_step waiting tokens = open_step waiting tokens (opening_of tokens)

abbrev pub resume : (List Mark → List Token → Result (List Token) (List Token)) → Stage → Result (List Token) (List Token)
resume more (Whole rest) = Ok rest
resume more (More waiting rest) = more waiting rest

-- in at most so many steps
unfoldable pub steps : ℕ → List Mark → List Token → Result (List Token) (List Token)
steps zero waiting tokens = Err tokens
steps (suc n) waiting tokens = operand_step waiting tokens >>= λ stage. resume (steps n) stage

-- what follows an expression
abbrev pub after_expression : List Token → Result (List Token) (List Token)
after_expression tokens = steps (length tokens) [] tokens

-- ---- what the frames of a stack stand for

abbrev pub AllowsTight : List Frame → Type 0
AllowsTight [] = Unit {0}
AllowsTight (frame.Negate ∷ below) = ⊥
AllowsTight (frame.Open ∷ below) = Unit {0}
AllowsTight (frame.Times left ∷ below) = ⊥
AllowsTight (frame.Plus left ∷ below) = Unit {0}
AllowsTight (frame.Minus left ∷ below) = Unit {0}

abbrev pub AllowsLoose : List Frame → Type 0
AllowsLoose [] = Unit {0}
AllowsLoose (frame.Negate ∷ below) = ⊥
AllowsLoose (frame.Open ∷ below) = Unit {0}
AllowsLoose (frame.Times left ∷ below) = ⊥
AllowsLoose (frame.Plus left ∷ below) = ⊥
AllowsLoose (frame.Minus left ∷ below) = ⊥

-- all of the tokens up to these were read into the frames
abbrev pub Stands : List Token → List Frame → List Token → Type 0
Stands all [] tokens = tokens ≡ all
Stands all (frame.Negate ∷ below) tokens = BeginsNoNumber tokens × Stands all below (Minus ∷ tokens)
Stands all (frame.Open ∷ below) tokens = Stands all below (Open ∷ tokens)
Stands all (frame.Times left ∷ below) tokens = (start : List Token) × Expression Tight start left (Star ∷ tokens) × AllowsTight below × Stands all below start
Stands all (frame.Plus left ∷ below) tokens = (start : List Token) × Expression Loose start left (Plus ∷ tokens) × AllowsLoose below × Stands all below start
Stands all (frame.Minus left ∷ below) tokens = (start : List Token) × Expression Loose start left (Minus ∷ tokens) × AllowsLoose below × Stands all below start

abbrev pub BeginsNoStar : List Token → Type 0
BeginsNoStar [] = Unit {0}
BeginsNoStar (Star ∷ rest) = ⊥
BeginsNoStar (other ∷ rest) = Unit {0}

-- how strongly an operand holds together, as the frames below it and the tokens behind it leave it
abbrev pub Allows : Strength → List Frame → List Token → Type 0
Allows Loose frames tokens = AllowsLoose frames × BeginsNoStar tokens
Allows Tight frames tokens = AllowsTight frames
Allows Single frames tokens = Unit {0}

-- the same, and an operand behind them
pub record HasOperand (all : List Token) (frames : List Frame) (operand : Expr) (tokens : List Token) : Type 0 where
  pub strength : Strength
  pub start : List Token
  pub spelled : Expression strength start operand tokens
  pub allowed : Allows strength frames tokens
  pub below : Stands all frames start

abbrev pub KeepsFrames : List Frame → List Frame → Closed → Type 0
KeepsFrames old new (closed.Goes operand rest) = new ≡ old
KeepsFrames old new (closed.Wants rest) = Unit {0}

abbrev pub ClosesTo : List Token → List Frame → Closed → Type 0
ClosesTo all frames (closed.Goes operand rest) = HasOperand all frames operand rest.now
ClosesTo all frames (closed.Wants rest) = Stands all frames rest.now

abbrev pub StandsAfter : List Token → List Frame → After → Type 0
StandsAfter all frames (after.Whole whole rest) = Expression Loose all whole rest.now
StandsAfter all frames (after.Wants rest) = Stands all frames rest.now

abbrev pub step_of : List Frame → Closed → Step
step_of frames (closed.Goes operand rest) = Goes rest.now
step_of frames (closed.Wants rest) = Wants (marks frames) rest.now

abbrev pub stage_of : List Frame → After → Stage
stage_of frames (after.Whole whole rest) = Whole rest.now
stage_of frames (after.Wants rest) = More (marks frames) rest.now
