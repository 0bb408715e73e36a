-- Reading a condition from left to right. Between two operands stands a stack of what waits for the right one.
use Rattle.std.specs.Prelude.{◌≡◌, ℕ, zero, suc, List, [], ◌∷◌, map, length, Result, Ok, Err}
use Rattle.inno_types.specs.declared.stmt.Filter.{Filter}
use Rattle.sql_grammar.specs.declared.token.Word.TheVariants as word
use Rattle.sql_grammar.specs.declared.token.Token.{Token}
use Rattle.sql_grammar.specs.declared.token.Token.TheVariants.{Key, Open, Close}
use Rattle.sql_grammar.specs.Grammar.{Condition, Strength, Loose, Tight, Single}
use Rattle.sql_conditions.specs.declared.conditions.Frame.{Frame}
use Rattle.sql_conditions.specs.declared.conditions.Frame.TheVariants as frame
use Rattle.sql_conditions.specs.declared.conditions.Closed.{Closed}
use Rattle.sql_conditions.specs.declared.conditions.Closed.TheVariants as closed
use Rattle.sql_conditions.specs.declared.conditions.After.{After}
use Rattle.sql_conditions.specs.declared.conditions.After.TheVariants as after
use Rattle.sql_conditions.specs.declared.conditions.Next.{Next}
use Rattle.sql_conditions.specs.declared.conditions.Next.TheVariants as next
use Rattle.sql_conditions.specs.Parts.{◌>>=◌}
use Rattle.sql_conditions.specs.Atoms.{atom_at}

-- ---- what waits for an operand

-- a NOT, an open bracket, and what stands left of an AND or of an OR
pub data Mark : Type 0 where
  Negation : Mark
  Bracket : Mark
  Conjunction : Mark
  Disjunction : Mark

abbrev pub mark_of : Frame → Mark
mark_of frame.Not = Negation
mark_of frame.Open = Bracket
mark_of (frame.And left) = Conjunction
mark_of (frame.Or left) = Disjunction

abbrev pub marks : List Frame → List Mark
marks frames = map mark_of frames

-- what stands behind an operand
pub data Follow : Type 0 where
  And : List Token → Follow
  Or : List Token → Follow
  Closing : List Token → Follow
  Other : Follow

unfoldable pub follow_of : List Token → Follow
follow_of (Key word.And ∷ rest) = And rest
follow_of (Key word.Or ∷ rest) = Or rest
follow_of (Close ∷ rest) = Closing rest
follow_of rest = Other

abbrev pub follow_by : Next → Follow
follow_by (next.And rest) = And rest.now
follow_by (next.Or rest) = Or rest.now
follow_by (next.Close rest) = Closing rest.now
follow_by next.Other = Other

-- an operand with what waited for it is an operand again, or another one is wanted first
pub data Step : Type 0 where
  Goes : List Token → Step
  Wants : List Mark → List Token → Step

abbrev pub in_disjunction : List Mark → List Token → Follow → Step
in_disjunction below tokens (And rest) = Wants (Conjunction ∷ Disjunction ∷ below) rest
in_disjunction below tokens (Or rest) = Goes tokens
in_disjunction below tokens (Closing rest) = Goes tokens
in_disjunction below tokens Other = Goes tokens

abbrev pub in_brackets : List Mark → List Token → Follow → Result Step (List Token)
in_brackets below tokens (And rest) = Ok (Wants (Conjunction ∷ Bracket ∷ below) rest)
in_brackets below tokens (Or rest) = Ok (Wants (Disjunction ∷ Bracket ∷ below) rest)
in_brackets below tokens (Closing rest) = Ok (Goes rest)
in_brackets below tokens Other = Err tokens

unfoldable pub close : Mark → List Mark → List Token → Result Step (List Token)
close Negation below tokens = Ok (Goes tokens)
close Bracket below tokens = in_brackets below tokens (follow_of tokens)
close Conjunction below tokens = Ok (Goes tokens)
close Disjunction below tokens = Ok (in_disjunction below tokens (follow_of tokens))

-- the condition is whole, or another operand is wanted
pub data Stage : Type 0 where
  Whole : List Token → Stage
  More : List Mark → List Token → Stage

abbrev pub at_bottom : List Token → Follow → Stage
at_bottom tokens (And rest) = More (Conjunction ∷ []) rest
at_bottom tokens (Or rest) = More (Disjunction ∷ []) rest
at_bottom tokens (Closing rest) = Whole tokens
at_bottom tokens Other = Whole tokens

abbrev pub carry : (List Token → Result Stage (List Token)) → Step → Result Stage (List Token)
carry below (Goes rest) = below rest
carry below (Wants waiting rest) = Ok (More waiting rest)

-- behind an operand
unfoldable pub settle : List Mark → List Token → Result Stage (List Token)
settle [] tokens = Ok (at_bottom tokens (follow_of tokens))
settle (mark ∷ below) tokens = close mark below tokens >>= λ step. carry (settle below) step

-- at a comparison or a test
unfoldable pub atom_step : List Mark → List Token → Result Stage (List Token)
atom_step waiting tokens = atom_at tokens >>= λ atom. settle waiting atom.1

-- where an operand is wanted
unfoldable pub operand_step : List Mark → List Token → Result Stage (List Token)
operand_step waiting (Key word.Not ∷ rest) = Ok (More (Negation ∷ waiting) rest)
operand_step waiting (Open ∷ rest) = Ok (More (Bracket ∷ waiting) rest)
operand_step waiting tokens = atom_step waiting tokens

abbrev pub resume : (List Mark → List Token → Result (List Token) (List Token)) → Stage → Result (List Token) (List Token)
resume more (Whole rest) = Ok rest
resume more (More waiting rest) = more waiting rest

-- in at most so many steps
unfoldable pub steps : ℕ → List Mark → List Token → Result (List Token) (List Token)
steps zero waiting tokens = Err tokens
steps (suc n) waiting tokens = operand_step waiting tokens >>= λ stage. resume (steps n) stage

-- what follows a condition
abbrev pub after_condition : List Token → Result (List Token) (List Token)
after_condition tokens = steps (length tokens) [] tokens

-- ---- what the frames of a stack stand for

abbrev pub AllowsAnd : List Frame → Type 0
AllowsAnd [] = Unit {0}
AllowsAnd (frame.Not ∷ below) = ⊥
AllowsAnd (frame.Open ∷ below) = Unit {0}
AllowsAnd (frame.And left ∷ below) = ⊥
AllowsAnd (frame.Or left ∷ below) = Unit {0}

abbrev pub AllowsOr : List Frame → Type 0
AllowsOr [] = Unit {0}
AllowsOr (frame.Not ∷ below) = ⊥
AllowsOr (frame.Open ∷ below) = Unit {0}
AllowsOr (frame.And left ∷ below) = ⊥
AllowsOr (frame.Or left ∷ below) = ⊥

-- all of the tokens up to these were read into the frames
abbrev pub Stands : List Token → List Frame → List Token → Type 0
Stands all [] tokens = tokens ≡ all
Stands all (frame.Not ∷ below) tokens = Stands all below (Key word.Not ∷ tokens)
Stands all (frame.Open ∷ below) tokens = Stands all below (Open ∷ tokens)
Stands all (frame.And left ∷ below) tokens = (start : List Token) × Condition Tight start left (Key word.And ∷ tokens) × AllowsAnd below × Stands all below start
Stands all (frame.Or left ∷ below) tokens = (start : List Token) × Condition Loose start left (Key word.Or ∷ tokens) × AllowsOr below × Stands all below start

abbrev pub BeginsNoAnd : List Token → Type 0
BeginsNoAnd [] = Unit {0}
BeginsNoAnd (Key word.And ∷ rest) = ⊥
BeginsNoAnd (other ∷ rest) = Unit {0}

-- how strongly an operand holds together, as the frames below it and the tokens behind it leave it
abbrev pub Allows : Strength → List Frame → List Token → Type 0
Allows Loose frames tokens = AllowsOr frames × BeginsNoAnd tokens
Allows Tight frames tokens = AllowsAnd frames
Allows Single frames tokens = Unit {0}

-- the same, and an operand behind them
pub record HasOperand (all : List Token) (frames : List Frame) (operand : Filter) (tokens : List Token) : Type 0 where
  pub strength : Strength
  pub start : List Token
  pub spelled : Condition strength start operand tokens
  pub allowed : Allows strength frames tokens
  pub below : Stands all frames start

abbrev pub KeepsFrames : List Frame → List Frame → Closed → Type 0
KeepsFrames old new (closed.Goes operand rest) = new ≡ old
KeepsFrames old new (closed.Wants rest) = Unit {0}

abbrev pub ClosesTo : List Token → List Frame → Closed → Type 0
ClosesTo all frames (closed.Goes operand rest) = HasOperand all frames operand rest.now
ClosesTo all frames (closed.Wants rest) = Stands all frames rest.now

abbrev pub StandsAfter : List Token → List Frame → After → Type 0
StandsAfter all frames (after.Whole whole rest) = Condition Loose all whole rest.now
StandsAfter all frames (after.Wants rest) = Stands all frames rest.now

abbrev pub step_of : List Frame → Closed → Step
step_of frames (closed.Goes operand rest) = Goes rest.now
step_of frames (closed.Wants rest) = Wants (marks frames) rest.now

abbrev pub stage_of : List Frame → After → Stage
stage_of frames (after.Whole whole rest) = Whole rest.now
stage_of frames (after.Wants rest) = More (marks frames) rest.now
